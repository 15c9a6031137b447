-- What a reader of whole trees and certificates gives is what is due.
use Rattle.std.proofs.Common.{◌≡◌, ℕ, ℤ, zero, suc, ◌+◌, ◌-◌, ◌≤◌, ◌<◌, Bool, true, false, cond, Option, Some, None, Result, Ok, Err, IfOk, List, [], ◌∷◌, drop, slice_get, sym, ap, subst, ◌∙◌, arith, IfErr}
use Rattle.text_parts.specs.Lines.{TextLine, Reading}
use Rattle.road_types.specs.Faults.{road_fault}
use Rattle.road_types.proofs.AcceptedRoad.{IsAccepted-from_fault}
use Rattle.road_types.specs.RoadPrograms.{row_count}
use Rattle.road_types.specs.declared.road.Road.{Road}
use Rattle.plan_text.specs.declared.error.TextErr.{TextErr}
use Rattle.plan_text.specs.declared.error.TextErr.TheVariants.{Bad, NoMemory}
use Rattle.plan_text.specs.Misfits.{IfBad}
use Rattle.plan_text.specs.inside.LineReading.{then_read, ◌>>=◌, give, taken, behind, Gives}
use Rattle.plan_text.specs.inside.PlanReading.{start_of}
use Rattle.milp_builder.specs.declared.boxes.Split.{Split}
use Rattle.cert_tree.specs.declared.tree.Tree.{Tree}
use Rattle.cert_tree.specs.declared.tree.Why.{Why}
use Rattle.cert_tree.specs.Trees.{BoxTree, low, dead, fork, box_tree_of}
use Rattle.cert_text.specs.declared.cert.Cert.{Cert}
use Rattle.cert_text.specs.declared.heading.Heading.{Heading}
use Rattle.cert_text.specs.declared.step.Step.{Step}
use Rattle.cert_text.specs.declared.step.Step.TheVariants.{Low, Dead, Split as AtSplit, End}
use Rattle.cert_text.specs.NodeText.{Root, low_leaf, dead_leaf, split_at}
use Rattle.cert_text.specs.CertText.{Certificate, IsCertText}
use Rattle.cert_text.specs.Certs.{certificate_of, IsTextOf}
use Rattle.cert_text.specs.Steps.{step_of, mults_after}
use Rattle.cert_text.specs.WordForms.{line_value}
use Rattle.cert_text.specs.Misfits.{refused_line}
use Rattle.cert_text.specs.inside.NodeReading.{next_of, line_due, no_form, root_on, tree_behind, tree_due}
use Rattle.cert_text.specs.inside.StepReading.{TakesNode, Steps}
use Rattle.cert_text.specs.inside.CertReading.{heading_due, tree_end_due, cert_due, value_with_nothing_left, whole_value, cert_of_text}
use Rattle.cert_text.specs.inside.WholeReading.{GivesNode, GivesTree, EndsText, GivesCert}
use Rattle.cert_text.proofs.LineLaws.{nothing_read}
use Rattle.cert_text.proofs.CertLaws.{cert_of_text-found, cert_of_text-exact}
use Rattle.cert_text.proofs.MisfitLaws.{refused_line-told}

-- ---- the next node

pub node_given : (rows level : ℕ) (levels : List ℕ) (before after : Reading) (step : Step) (last mults : List (ℕ × ℤ)) (left : List ℕ) → slice_get levels 0 ≡ Some level → Steps rows levels before (Ok step) after last mults left → TakesNode rows level (drop 1 levels) before after step last mults left
node_given rows level [] before after step last mults left top h = cc
node_given rows level (l ∷ others) before after step last mults left top h =
    let is : l ≡ level = cc in subst (λ l. TakesNode rows l others before after step last mults left) is h

pub node_failed : (rows level : ℕ) (levels : List ℕ) (before after : Reading) (line : ℕ) (last mults : List (ℕ × ℤ)) (left : List ℕ) → slice_get levels 0 ≡ Some level → Steps rows levels before (Err line) after last mults left → root_on rows level before ≡ Err line
node_failed rows level [] before after line last mults left top h = cc
node_failed rows level (l ∷ others) before after line last mults left top h =
    let is : l ≡ level = cc in subst (λ l. root_on rows l before ≡ Err line) is h

-- ---- a tree by its root

tree_step : (rows level : ℕ) (before after : Reading) (root : Root) → root_on rows level before ≡ Ok (root, after) → (tree_due rows level before ≡ tree_behind (tree_due rows (level - 1)) root after) × (0 < level)
tree_step rows zero before after root e = absurd (nothing_read before after root e)
tree_step rows (suc level) before after root e =
    let back : suc level - 1 ≡ level = omega arith in
    (rw back (ap (λ o. then_read o (tree_behind (tree_due rows level))) e), omega arith)

none_as : (before : Reading) (left : List TextLine) (line : ℕ) → next_of (no_form {A = Root}) left before ≡ Err line → next_of (no_form {A = BoxTree}) left before ≡ Err line
unfolding line_value
none_as before [] line e = let same : before.number + 1 ≡ line = cc in ap (λ n. Err n) same
none_as before (first ∷ others) line e = by_end first.ended e
  where
    by_end : (ended : Bool) → taken {A = Root} (cond ended None None) (behind before others) ≡ Err line → taken {A = BoxTree} (cond ended None None) (behind before others) ≡ Err line
    by_end true e = let same : before.number + 1 ≡ line = cc in ap (λ n. Err n) same
    by_end false e = let same : before.number + 1 ≡ line = cc in ap (λ n. Err n) same

pub tree_bad : (rows level line : ℕ) (before : Reading) → root_on rows level before ≡ Err line → tree_due rows level before ≡ Err line
unfolding line_due
tree_bad rows zero line before e = none_as before before.left line e
tree_bad rows (suc level) line before e = ap (λ o. then_read o (tree_behind (tree_due rows level))) e

root_is_low : (root : Root) (scale : ℤ) (cause : Option Why) (last mults : List (ℕ × ℤ)) → Low scale cause ≡ step_of root → mults ≡ mults_after root last → root ≡ low_leaf scale mults cause
root_is_low (low_leaf s ms c) scale cause last mults e m = cc
root_is_low (dead_leaf ms) scale cause last mults e m = cc
root_is_low (split_at s) scale cause last mults e m = cc

root_is_dead : (root : Root) (last mults : List (ℕ × ℤ)) → Dead ≡ step_of root → mults ≡ mults_after root last → root ≡ dead_leaf mults
root_is_dead (low_leaf s ms c) last mults e m = cc
root_is_dead (dead_leaf ms) last mults e m = cc
root_is_dead (split_at s) last mults e m = cc

root_is_split : (root : Root) (split : Split) → AtSplit split ≡ step_of root → root ≡ split_at split
root_is_split (low_leaf s ms c) split e = cc
root_is_split (dead_leaf ms) split e = cc
root_is_split (split_at s) split e = cc

root_is_none : (root : Root) → End ≡ step_of root → ⊥
root_is_none (low_leaf s ms c) e = cc
root_is_none (dead_leaf ms) e = cc
root_is_none (split_at s) e = cc

pub not_ended : (rows level : ℕ) (others : List ℕ) (before after : Reading) (last mults : List (ℕ × ℤ)) (left : List ℕ) → TakesNode rows level others before after End last mults left → ⊥
not_ended rows level others before after last mults left h = root_is_none h.root h.step_is

pub has_level : (rows level : ℕ) (others : List ℕ) (before after : Reading) (step : Step) (last mults : List (ℕ × ℤ)) (left : List ℕ) → TakesNode rows level others before after step last mults left → 0 < level
has_level rows level others before after step last mults left h = (tree_step rows level before after h.root h.read).1

-- the levels that are left to a split's parts
pub split_levels : (rows level : ℕ) (others : List ℕ) (before after : Reading) (split : Split) (last mults : List (ℕ × ℤ)) (left : List ℕ) → TakesNode rows level others before after (AtSplit split) last mults left → left ≡ (level - 1) ∷ (level - 1) ∷ others
split_levels rows level others before after split last mults left h = h.levels_is

pub low_read : (rows level : ℕ) (others : List ℕ) (before after : Reading) (scale : ℤ) (cause : Option Why) (last mults : List (ℕ × ℤ)) (left : List ℕ) (tree : Tree) → box_tree_of tree ≡ low scale mults cause → TakesNode rows level others before after (Low scale cause) last mults left → tree_due rows level before ≡ Ok (box_tree_of tree, after)
low_read rows level others before after scale cause last mults left tree t h =
    let step = (tree_step rows level before after h.root h.read).0 in
    let root = root_is_low h.root scale cause last mults h.step_is h.mults_is in
    step ∙ ap (λ r. tree_behind (tree_due rows (level - 1)) r after) root ∙ ap (λ t. Ok (t, after)) (sym t)

pub dead_read : (rows level : ℕ) (others : List ℕ) (before after : Reading) (last mults : List (ℕ × ℤ)) (left : List ℕ) (tree : Tree) → box_tree_of tree ≡ dead mults → TakesNode rows level others before after Dead last mults left → tree_due rows level before ≡ Ok (box_tree_of tree, after)
dead_read rows level others before after last mults left tree t h =
    let step = (tree_step rows level before after h.root h.read).0 in
    let root = root_is_dead h.root last mults h.step_is h.mults_is in
    step ∙ ap (λ r. tree_behind (tree_due rows (level - 1)) r after) root ∙ ap (λ t. Ok (t, after)) (sym t)

-- a split is followed by two trees
abbrev parts_due : ℕ → ℕ → Split → Reading → Result (BoxTree × Reading) ℕ
parts_due rows level split lines =
    then_read (tree_due rows (level - 1) lines) (λ first. (tree_due rows (level - 1) >>= (λ second. give (fork split first second))))

split_due : (rows level : ℕ) (others : List ℕ) (before after : Reading) (split : Split) (last mults : List (ℕ × ℤ)) (left : List ℕ) → TakesNode rows level others before after (AtSplit split) last mults left → tree_due rows level before ≡ parts_due rows level split after
split_due rows level others before after split last mults left h =
    (tree_step rows level before after h.root h.read).0 ∙ ap (λ r. tree_behind (tree_due rows (level - 1)) r after) (root_is_split h.root split h.step_is)

pub first_failed : (rows level : ℕ) (others : List ℕ) (before middle between after : Reading) (split : Split) (last mults : List (ℕ × ℤ)) (left : List ℕ) (error : TextErr) → TakesNode rows level others before middle (AtSplit split) last mults left → GivesTree (tree_due rows (level - 1) middle) (Err error) between → GivesTree (tree_due rows level before) (Err error) after
first_failed rows level others before middle between after split last mults left (Bad line) h e =
    split_due rows level others before middle split last mults left h
    ∙ ap (λ o. then_read o (λ first. (tree_due rows (level - 1) >>= (λ second. give (fork split first second))))) e
first_failed rows level others before middle between after split last mults left NoMemory h e = tt

pub second_failed : (rows level : ℕ) (others : List ℕ) (before middle between after final : Reading) (split : Split) (last mults : List (ℕ × ℤ)) (left : List ℕ) (first : BoxTree) (error : TextErr) → TakesNode rows level others before middle (AtSplit split) last mults left → tree_due rows (level - 1) middle ≡ Ok (first, between) → GivesTree (tree_due rows (level - 1) between) (Err error) after → GivesTree (tree_due rows level before) (Err error) final
second_failed rows level others before middle between after final split last mults left first (Bad line) h d e =
    split_due rows level others before middle split last mults left h
    ∙ ap (λ o. then_read o (λ first. (tree_due rows (level - 1) >>= (λ second. give (fork split first second))))) d
    ∙ ap (λ o. then_read o (λ second. give (fork split first second))) e
second_failed rows level others before middle between after final split last mults left first NoMemory h d e = tt

pub split_read : (rows level : ℕ) (others : List ℕ) (before middle between after : Reading) (split : Split) (last mults : List (ℕ × ℤ)) (left : List ℕ) (first second : BoxTree) (tree : Tree) → box_tree_of tree ≡ fork split first second → TakesNode rows level others before middle (AtSplit split) last mults left → tree_due rows (level - 1) middle ≡ Ok (first, between) → tree_due rows (level - 1) between ≡ Ok (second, after) → tree_due rows level before ≡ Ok (box_tree_of tree, after)
split_read rows level others before middle between after split last mults left first second tree t h d e =
    split_due rows level others before middle split last mults left h
    ∙ ap (λ o. then_read o (λ first. (tree_due rows (level - 1) >>= (λ second. give (fork split first second))))) d
    ∙ ap (λ o. then_read o (λ second. give (fork split first second))) e
    ∙ ap (λ t. Ok (t, after)) (sym t)

pub node_stops : (rows level : ℕ) (others : List ℕ) (before after final : Reading) (last mults : List (ℕ × ℤ)) (left : List ℕ) (error : TextErr) → GivesNode rows level others before (Err error) after last mults left → GivesTree (tree_due rows level before) (Err error) final
node_stops rows level others before after final last mults left (Bad line) e = tree_bad rows level line before e
node_stops rows level others before after final last mults left NoMemory e = tt

-- ---- a certificate

-- the certificate of a heading and a tree
abbrev pub cert_with : Heading → BoxTree → Certificate
cert_with heading tree = record { planned = heading.planned; bound = heading.bound; tree = tree }

pub heading_stops : (road : Road) (bytes : List ℕ) (before after : Reading) (error : TextErr) → before ≡ start_of bytes → Gives (heading_due road before) (Err error) after → GivesCert (cert_of_text road bytes) (Err error)
unfolding cert_of_text cert_due
heading_stops road bytes before after (Bad line) s e =
    ap (λ o. whole_value (then_read o (λ heading. (tree_end_due road >>= (λ tree. give (cert_with heading tree)))))) (ap (heading_due road) (sym s) ∙ e)
heading_stops road bytes before after NoMemory s e = tt

behind_heading : (road : Road) (bytes : List ℕ) (before between : Reading) (heading : Heading) → before ≡ start_of bytes → heading_due road before ≡ Ok (heading, between) → cert_of_text road bytes ≡ whole_value (then_read (tree_end_due road between) (λ tree. give (cert_with heading tree)))
unfolding cert_of_text cert_due
behind_heading road bytes before between heading s h =
    ap (λ o. whole_value (then_read o (λ heading. (tree_end_due road >>= (λ tree. give (cert_with heading tree)))))) (ap (heading_due road) (sym s) ∙ h)

pub tree_stops : (road : Road) (bytes : List ℕ) (before between after : Reading) (heading : Heading) (error : TextErr) → before ≡ start_of bytes → heading_due road before ≡ Ok (heading, between) → GivesTree (tree_end_due road between) (Err error) after → GivesCert (cert_of_text road bytes) (Err error)
tree_stops road bytes before between after heading (Bad line) s h e =
    behind_heading road bytes before between heading s h ∙ ap (λ o. whole_value (then_read o (λ tree. give (cert_with heading tree)))) e
tree_stops road bytes before between after heading NoMemory s h e = tt

to_end : (road : Road) (bytes : List ℕ) (before between after : Reading) (heading : Heading) (tree : BoxTree) → before ≡ start_of bytes → heading_due road before ≡ Ok (heading, between) → tree_end_due road between ≡ Ok (tree, after) → cert_of_text road bytes ≡ value_with_nothing_left (cert_with heading tree) after.number after.left
to_end road bytes before between after heading tree s h e =
    behind_heading road bytes before between heading s h ∙ ap (λ o. whole_value (then_read o (λ tree. give (cert_with heading tree)))) e

pub more_stops : (road : Road) (bytes : List ℕ) (before between after : Reading) (heading : Heading) (tree : BoxTree) (error : TextErr) → before ≡ start_of bytes → heading_due road before ≡ Ok (heading, between) → tree_end_due road between ≡ Ok (tree, after) → EndsText after (Err error) → GivesCert (cert_of_text road bytes) (Err error)
more_stops road bytes before between after heading tree (Bad line) s h e left =
    to_end road bytes before between after heading tree s h e
    ∙ ap (value_with_nothing_left (cert_with heading tree) after.number) left.2
    ∙ ap (λ n. Err n) (sym left.3)
more_stops road bytes before between after heading tree NoMemory s h e left = tt

pub all_read : (road : Road) (bytes : List ℕ) (before between after : Reading) (heading : Heading) (tree : BoxTree) → before ≡ start_of bytes → heading_due road before ≡ Ok (heading, between) → tree_end_due road between ≡ Ok (tree, after) → after.left ≡ [] → cert_of_text road bytes ≡ Ok (cert_with heading tree)
all_read road bytes before between after heading tree s h e none =
    to_end road bytes before between after heading tree s h e ∙ ap (value_with_nothing_left (cert_with heading tree) after.number) none

-- ---- what an answer says of the bytes

pub few_rows : (road : Road) → road_fault road ≡ None → row_count road ≤ 600
few_rows road accepted = (IsAccepted-from_fault road accepted).rows

pub found : (road : Road) (bytes : List ℕ) (result : Result Cert TextErr) → road_fault road ≡ None → GivesCert (cert_of_text road bytes) result → IfOk result (IsTextOf road bytes)
found road bytes (Ok cert) accepted e =
    let text = cert_of_text-found road (few_rows road accepted) bytes (certificate_of cert) e.0 in
    record { spelled = record { paired = e.1; has_text = text.has_text }; is_text = text.is_text }
found road bytes (Err error) accepted e = tt

pub only : (road : Road) (bytes : List ℕ) (result : Result Cert TextErr) → road_fault road ≡ None → GivesCert (cert_of_text road bytes) result → IfBad result (λ _. (cert : Certificate) → ¬ (IsCertText road bytes cert))
only road bytes (Ok cert) accepted e = tt
only road bytes (Err (Bad line)) accepted e = λ cert h. cc (cert_of_text-exact road (few_rows road accepted) bytes cert h, e)
only road bytes (Err NoMemory) accepted e = tt

one_cert : (read cert : Certificate) (due : Result Certificate ℕ) → due ≡ Ok read → due ≡ Ok cert → read ≡ cert
one_cert read cert due e h = cc (e, h)

pub exact : (road : Road) (bytes : List ℕ) (result : Result Cert TextErr) → road_fault road ≡ None → GivesCert (cert_of_text road bytes) result → (cert : Certificate) → IsCertText road bytes cert → IfOk result (λ read. certificate_of read ≡ cert)
exact road bytes (Ok read) accepted e cert h =
    one_cert (certificate_of read) cert (cert_of_text road bytes) e.0 (cert_of_text-exact road (few_rows road accepted) bytes cert h)
exact road bytes (Err error) accepted e cert h = tt

pub refused : (road : Road) (bytes : List ℕ) (result : Result Cert TextErr) → GivesCert (cert_of_text road bytes) result → IfBad result (λ line. refused_line road bytes ≡ Some line)
refused road bytes (Ok cert) e = tt
refused road bytes (Err (Bad line)) e = refused_line-told road bytes line e
refused road bytes (Err NoMemory) e = tt

-- a tree was made, or memory was wanting
pub tree_made : (Made : Tree → Type 0) (due : Result (BoxTree × Reading) ℕ) (made : Result Tree TextErr) (lines : Reading) → IfOk made Made → IfErr made (λ error. error ≡ NoMemory) → ((tree : Tree) → Made tree → due ≡ Ok (box_tree_of tree, lines)) → GivesTree due made lines
tree_made Made due (Ok tree) lines found wanting is = is tree found
tree_made Made due (Err (Bad line)) lines found wanting is = cc
tree_made Made due (Err NoMemory) lines found wanting is = tt
