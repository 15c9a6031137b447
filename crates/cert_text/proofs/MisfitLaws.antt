-- A reader of a certificate stops at the first line that isn't of the form due.
use Rattle.std.proofs.Common.{◌≡◌, ℕ, ℤ, ◌+◌, zero, suc, Bool, true, false, cond, Option, Some, None, Result, Ok, Err, MatchResult, List, [], ◌∷◌, codes, refl, ◌∙◌}
use Rattle.std.proofs.lemmas.Result.{MatchResult-weaker, MatchResult-at_err}
use Rattle.text_parts.specs.Lines.{TextLine, Reading}
use Rattle.road_types.specs.RoadPrograms.{row_count}
use Rattle.road_types.specs.declared.road.Road.{Road}
use Rattle.plan_text.specs.Misfits.{forms_due, misfit_or, nothing}
use Rattle.plan_text.specs.inside.LineReading.{Read, then_read, ◌>>=◌, give, taken, behind}
use Rattle.plan_text.specs.inside.PlanReading.{plan_due, start_of}
use Rattle.plan_text.proofs.DueLaws.{plan_follows}
use Rattle.cert_tree.specs.declared.tree.Why.{Why}
use Rattle.cert_tree.specs.Trees.{BoxTree, fork}
use Rattle.cert_text.specs.declared.head.Head.{Head}
use Rattle.cert_text.specs.declared.head.Head.TheVariants.{Low, Dead, Parted}
use Rattle.cert_text.specs.NodeText.{low_leaf, dead_leaf, most_levels}
use Rattle.cert_text.specs.CertText.{Certificate}
use Rattle.cert_text.specs.WordForms.{WordForm, line_value, is_next, head_form, mult_form}
use Rattle.cert_text.specs.StatedForms.{keyword_form, cost_form, bound_form}
use Rattle.cert_text.specs.Misfits.{Misfit, value_or, line_or, mults_or, node_or, tree_or, planned_or, refused_line}
use Rattle.cert_text.specs.inside.NodeReading.{next_of, line_due, no_form, mults_due, root_behind, root_due, tree_behind, tree_due}
use Rattle.cert_text.specs.inside.CertReading.{priced_due, unplanned_due, planned_with, planned_due, heading_due, tree_end_due, cert_due, value_with_nothing_left, whole_value, cert_of_text}

-- behind what was read stands what its value says, or a line was refused
abbrev pub Stops : {A : Type 0} → Result (A × Reading) ℕ → Option ℕ → (A → Misfit) → Type 0
Stops o misfit others = MatchResult o (λ p. misfit ≡ others p.0 p.1.number p.1.left) (λ line. misfit ≡ Some line)

record Passes {A : Type 0} (read : Read A) (misfit : (A → Misfit) → Misfit) : Type 0 where
  passes : (before : Reading) (others : A → Misfit) → Stops (read before) (misfit others before.number before.left) others

-- the same where the value says nothing of the lines behind
pub record Skips {A : Type 0} (read : Read A) (misfit : Misfit → Misfit) : Type 0 where
  pub skips : (before : Reading) (others : Misfit) → Stops (read before) (misfit others before.number before.left) (λ a. others)

value_passes : {A : Type 0} (lines : Reading) (o : Option A) (others : A → Misfit) → Stops (taken o lines) (value_or o others lines.number lines.left) others
value_passes lines None others = refl
value_passes lines (Some a) others = refl

next_passes : {A : Type 0} (form : WordForm A) (before : Reading) (left : List TextLine) (others : A → Misfit) → Stops (next_of form left before) (line_or form others before.number left) others
next_passes form before [] others = refl
next_passes form before (line ∷ lines) others = value_passes (behind before lines) (line_value form line) others

line_passes : {A : Type 0} (form : WordForm A) → Passes (line_due form) (line_or form)
unfolding line_due
line_passes form = record { passes = λ before others. next_passes form before before.left others }

give_skips : {A : Type 0} (a : A) → Skips (give a) (λ others. others)
give_skips a = record { skips = λ before others. refl }

joined : {A B : Type 0} (o : Result (A × Reading) ℕ) (next : A → Read B) (misfit : A → Misfit → Misfit) (others : Misfit) (whole : Option ℕ) → ((a : A) → Skips (next a) (misfit a)) → Stops o whole (λ a. misfit a others) → Stops (then_read o next) whole (λ b. others)
joined (Err line) next misfit others whole s h = h
joined (Ok p) next misfit others whole s h =
    MatchResult-weaker (next p.0 p.1) ((s p.0).skips p.1 others) (λ q e. h ∙ e) (λ line e. h ∙ e)

-- a reader, and one behind it that depends on what was read
then_skips : {A B : Type 0} (read : Read A) (next : A → Read B) (first : (A → Misfit) → Misfit) (second : A → Misfit → Misfit) → Passes read first → ((a : A) → Skips (next a) (second a)) → Skips (read >>= next) (λ others. first (λ a. second a others))
then_skips read next first second r s =
    record { skips = λ before others. joined (read before) next second others (first (λ a. second a others) before.number before.left) s (r.passes before (λ a. second a others)) }

both_skip : {A B : Type 0} (read : Read A) (next : A → Read B) (first second : Misfit → Misfit) → Skips read first → ((a : A) → Skips (next a) second) → Skips (read >>= next) (λ others. first (second others))
both_skip read next first second r s =
    record { skips = λ before others. joined (read before) next (λ a. second) others (first (second others) before.number before.left) s (r.skips before (second others)) }

made_skips : {A B : Type 0} (read : Read A) (f : A → B) (misfit : Misfit → Misfit) → Skips read misfit → Skips (read >>= (λ a. give (f a))) misfit
made_skips read f misfit r = both_skip read (λ a. give (f a)) misfit (λ others. others) r (λ a. give_skips (f a))

mults_skip : (rows before count : ℕ) → Skips (mults_due rows before count) (mults_or rows before count)
mults_skip rows before zero = give_skips []
mults_skip rows before (suc count) =
    then_skips (line_due (mult_form rows before)) (λ mult. (mults_due rows mult.0 count >>= (λ mults. give (mult ∷ mults)))) (line_or (mult_form rows before)) (λ mult. mults_or rows mult.0 count)
    (line_passes (mult_form rows before))
    (λ mult. made_skips (mults_due rows mult.0 count) (λ mults. mult ∷ mults) (mults_or rows mult.0 count) (mults_skip rows mult.0 count))

low_stops : (o : Result (List (ℕ × ℤ) × Reading) ℕ) (part : Read BoxTree) (scale : ℤ) (cause : Option Why) (whole : Option ℕ) (others : Misfit) → Stops o whole (λ mults. others) → Stops (then_read (then_read o (λ mults. give (low_leaf scale mults cause))) (tree_behind part)) whole (λ tree. others)
low_stops (Err line) part scale cause whole others h = h
low_stops (Ok p) part scale cause whole others h = h

dead_stops : (o : Result (List (ℕ × ℤ) × Reading) ℕ) (part : Read BoxTree) (whole : Option ℕ) (others : Misfit) → Stops o whole (λ mults. others) → Stops (then_read (then_read o (λ mults. give (dead_leaf mults))) (tree_behind part)) whole (λ tree. others)
dead_stops (Err line) part whole others h = h
dead_stops (Ok p) part whole others h = h

-- what is due behind the first line of a node
node_skips : (rows : ℕ) (part : Read BoxTree) (misfit : Misfit → Misfit) → Skips part misfit → (head : Head) → Skips (root_behind rows head >>= tree_behind part) (λ others. node_or rows misfit others head)
node_skips rows part misfit s (Low scale cause count) =
    record { skips = λ before others. low_stops (mults_due rows 0 count before) part scale cause (mults_or rows 0 count others before.number before.left) others ((mults_skip rows 0 count).skips before others) }
node_skips rows part misfit s (Dead count) =
    record { skips = λ before others. dead_stops (mults_due rows 0 count before) part (mults_or rows 0 count others before.number before.left) others ((mults_skip rows 0 count).skips before others) }
node_skips rows part misfit s (Parted split) =
    both_skip part (λ first. (part >>= (λ second. give (fork split first second)))) misfit misfit s (λ first. made_skips part (λ second. fork split first second) misfit s)

by_head : (o : Result (Head × Reading) ℕ) (rows : ℕ) (part : Read BoxTree) (misfit : Misfit → Misfit) (others : Misfit) (whole : Option ℕ) → Skips part misfit → Stops o whole (node_or rows misfit others) → Stops (then_read (then_read o (root_behind rows)) (tree_behind part)) whole (λ tree. others)
by_head (Err line) rows part misfit others whole s h = h
by_head (Ok p) rows part misfit others whole s h =
    MatchResult-weaker (then_read (root_behind rows p.0 p.1) (tree_behind part)) ((node_skips rows part misfit s p.0).skips p.1 others) (λ q e. h ∙ e) (λ line e. h ∙ e)

none_stops : (before : Reading) (left : List TextLine) (others : Misfit) → Stops (next_of (no_form {A = BoxTree}) left before) (Some (before.number + 1)) (λ tree. others)
unfolding line_value
none_stops before [] others = refl
none_stops before (line ∷ lines) others = by_end line.ended
  where
    by_end : (ended : Bool) → Stops (taken {A = BoxTree} (cond ended None None) (behind before lines)) (Some (before.number + 1)) (λ tree. others)
    by_end true = refl
    by_end false = refl

pub tree_skips : (rows levels : ℕ) → Skips (tree_due rows levels) (tree_or rows levels)
unfolding line_due root_due
tree_skips rows zero = record { skips = λ before others. none_stops before before.left others }
tree_skips rows (suc levels) =
    record {
      skips = λ before others.
          by_head (line_due (head_form rows) before) rows (tree_due rows levels) (tree_or rows levels) others (line_or (head_form rows) (node_or rows (tree_or rows levels) others) before.number before.left) (tree_skips rows levels)
          ((line_passes (head_form rows)).passes before (node_or rows (tree_or rows levels) others));
    }

-- a line whose value says nothing of the lines behind
line_skips : {A : Type 0} (form : WordForm A) → Skips (line_due form) (λ others. line_or form (λ a. others))
line_skips form = record { skips = λ before others. (line_passes form).passes before (λ a. others) }

plan_skips : (road : Road) → Skips (plan_due road) (misfit_or (forms_due road))
plan_skips road = record { skips = λ before others. (plan_follows road).follows before others }

priced_skips : (road : Road) → Skips (priced_due road) (λ others. misfit_or (forms_due road) (line_or cost_form (λ cost. others)))
unfolding priced_due
priced_skips road =
    both_skip (plan_due road) (λ plan. (line_due cost_form >>= (λ cost. give (record { plan = plan; cost = cost })))) (misfit_or (forms_due road)) (λ others. line_or cost_form (λ cost. others))
    (plan_skips road)
    (λ plan. made_skips (line_due cost_form) (λ cost. record { plan = plan; cost = cost }) (λ others. line_or cost_form (λ cost. others)) (line_skips cost_form))

by_choice : {A : Type 0} (yes : Bool) (a b : Result (A × Reading) ℕ) (x y : Option ℕ) (others : A → Misfit) → Stops a x others → Stops b y others → Stops (cond yes a b) (cond yes x y) others
by_choice true a b x y others h k = h
by_choice false a b x y others h k = k

planned_skips : (road : Road) → Skips (planned_due road) (planned_or road)
unfolding planned_due
planned_skips road =
    let unplanned = keyword_form (codes "unplanned") in
    record {
      skips = λ before others.
          by_choice (is_next unplanned before.left) (unplanned_due before) (planned_with road before)
          (line_or unplanned (λ word. others) before.number before.left)
          (misfit_or (forms_due road) (line_or cost_form (λ cost. others)) before.number before.left)
          (λ planned. others)
          ((made_skips (line_due unplanned) (λ word. None) (λ others. line_or unplanned (λ word. others)) (line_skips unplanned)).skips before others)
          ((made_skips (priced_due road) (λ priced. Some priced) (λ others. misfit_or (forms_due road) (line_or cost_form (λ cost. others))) (priced_skips road)).skips before others);
    }

heading_skips : (road : Road) → Skips (heading_due road) (λ others. line_or (keyword_form (codes "certificate")) (λ start. planned_or road (line_or bound_form (λ bound. others))))
unfolding heading_due
heading_skips road =
    both_skip (line_due (keyword_form (codes "certificate"))) (λ start. (planned_due road >>= (λ planned. (line_due bound_form >>= (λ bound. give (record { planned = planned; bound = bound }))))))
    (λ others. line_or (keyword_form (codes "certificate")) (λ start. others)) (λ others. planned_or road (line_or bound_form (λ bound. others)))
    (line_skips (keyword_form (codes "certificate")))
    (λ start. both_skip (planned_due road) (λ planned. (line_due bound_form >>= (λ bound. give (record { planned = planned; bound = bound })))) (planned_or road) (λ others. line_or bound_form (λ bound. others))
    (planned_skips road)
    (λ planned. made_skips (line_due bound_form) (λ bound. record { planned = planned; bound = bound }) (λ others. line_or bound_form (λ bound. others)) (line_skips bound_form)))

tree_end_skips : (road : Road) → Skips (tree_end_due road) (λ others. tree_or (row_count road) most_levels (line_or (keyword_form (codes "end")) (λ last. others)))
unfolding tree_end_due
tree_end_skips road =
    both_skip (tree_due (row_count road) most_levels) (λ tree. (line_due (keyword_form (codes "end")) >>= (λ last. give tree))) (tree_or (row_count road) most_levels) (λ others. line_or (keyword_form (codes "end")) (λ last. others))
    (tree_skips (row_count road) most_levels)
    (λ tree. made_skips (line_due (keyword_form (codes "end"))) (λ last. tree) (λ others. line_or (keyword_form (codes "end")) (λ last. others)) (line_skips (keyword_form (codes "end"))))

abbrev cert_or : Road → Misfit → Misfit
cert_or road others =
    line_or (keyword_form (codes "certificate")) (λ start.
    planned_or road (line_or bound_form (λ bound.
    tree_or (row_count road) most_levels (line_or (keyword_form (codes "end")) (λ last. others)))))

cert_skips : (road : Road) → Skips (cert_due road) (cert_or road)
unfolding cert_due
cert_skips road =
    both_skip (heading_due road) (λ heading. (tree_end_due road >>= (λ tree. give (record { planned = heading.planned; bound = heading.bound; tree = tree }))))
    (λ others. line_or (keyword_form (codes "certificate")) (λ start. planned_or road (line_or bound_form (λ bound. others))))
    (λ others. tree_or (row_count road) most_levels (line_or (keyword_form (codes "end")) (λ last. others)))
    (heading_skips road)
    (λ heading. made_skips (tree_end_due road) (λ tree. record { planned = heading.planned; bound = heading.bound; tree = tree }) (λ others. tree_or (row_count road) most_levels (line_or (keyword_form (codes "end")) (λ last. others))) (tree_end_skips road))

refused_behind : (cert : Certificate) (number : ℕ) (left : List TextLine) (refused : Option ℕ) → refused ≡ nothing number left → MatchResult (value_with_nothing_left cert number left) (λ _. refused ≡ None) (λ line. refused ≡ Some line)
refused_behind cert number [] refused e = e
refused_behind cert number (line ∷ lines) refused e = e

refused_from : (due : Result (Certificate × Reading) ℕ) (refused : Option ℕ) → Stops due refused (λ cert. nothing) → MatchResult (whole_value due) (λ _. refused ≡ None) (λ line. refused ≡ Some line)
refused_from (Err line) refused h = h
refused_from (Ok read) refused h = refused_behind read.0 read.1.number read.1.left refused h

-- bytes are refused for the first line that isn't of the form due or stands behind a whole text
pub cert_of_text-line : (road : Road) (bytes : List ℕ) → MatchResult (cert_of_text road bytes) (λ _. refused_line road bytes ≡ None) (λ line. refused_line road bytes ≡ Some line)
unfolding cert_of_text refused_line
cert_of_text-line road bytes =
    refused_from (cert_due road (start_of bytes)) _ ((cert_skips road).skips (start_of bytes) nothing)

pub refused_line-told : (road : Road) (bytes : List ℕ) (line : ℕ) → cert_of_text road bytes ≡ Err line → refused_line road bytes ≡ Some line
refused_line-told road bytes line e = MatchResult-at_err _ _ line e (cert_of_text-line road bytes)

by_result : (read : Result Certificate ℕ) (refused : Option ℕ) (line : ℕ) → MatchResult read (λ _. refused ≡ None) (λ line. refused ≡ Some line) → refused ≡ Some line → read ≡ Err line
by_result (Ok cert) refused line h e = cc (h, e)
by_result (Err other) refused line h e = cc (h, e)

pub refused_line-is : (road : Road) (bytes : List ℕ) (line : ℕ) → refused_line road bytes ≡ Some line → cert_of_text road bytes ≡ Err line
refused_line-is road bytes line e = by_result (cert_of_text road bytes) (refused_line road bytes) line (cert_of_text-line road bytes) e
