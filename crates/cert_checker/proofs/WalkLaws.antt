-- What the rest of the trees comes to is what the whole comes to, node by node.
use Rattle.std.proofs.Common.{◌≡◌, inl, inr, ℕ, ℤ, zero, suc, ◌+◌, ◌-◌, ◌≤◌, ◌<◌, ◌||◌, Bool, true, false, Option, Some, None, Result, Ok, Err, List, [], ◌∷◌, length, refl, sym, ap, ap₂, subst, ◌∙◌, arith}
use Rattle.text_parts.specs.Lines.{Reading}
use Rattle.plan_text.proofs.SpellsLemmas.{ok_parts}
use Rattle.numbers.specs.Fractions.{Fraction}
use Rattle.road_types.specs.declared.road.Road.{Road}
use Rattle.road_types.specs.RoadPrograms.{row_count}
use Rattle.milp_builder.specs.Boxes.{IsBoxOf, root_box}
use Rattle.milp_builder.specs.Parts.{IsSplitOf, first_part, second_part}
use Rattle.milp_builder.specs.declared.boxes.BoxRange.{BoxRange}
use Rattle.milp_builder.specs.declared.boxes.Split.{Split}
use Rattle.milp_builder.proofs.Cover.{found_parts_cover}
use Rattle.cert_tree.specs.Trees.{BoxTree, low, dead, fork}
use Rattle.cert_tree.specs.Soundness.{has_low}
use Rattle.cert_text.specs.declared.step.Step.{Step}
use Rattle.cert_text.specs.declared.step.Step.TheVariants.{End}
use Rattle.cert_text.specs.NodeText.{Root, low_leaf, dead_leaf, split_at, IsRoot, most_levels}
use Rattle.cert_text.specs.Steps.{step_of, mults_after, levels_after, root_of, trees_behind}
use Rattle.cert_text.specs.inside.NodeReading.{root_due, tree_due}
use Rattle.cert_text.specs.inside.StepReading.{Steps}
use Rattle.cert_text.proofs.LineLaws.{nothing_read}
use Rattle.cert_text.proofs.LineCounts.{root_lines, root_on_after}
use Rattle.cert_checker.specs.declared.refusal.CertRule.TheVariants.{C5}
use Rattle.cert_checker.specs.declared.refusal.Refusal.{Refusal}
use Rattle.cert_checker.specs.declared.walk.Walked.{Walked}
use Rattle.cert_checker.specs.Refusals.{line_count, refused, IsTreeRefusal}
use Rattle.cert_checker.specs.inside.Walking.{forest_due, FindsIn, has_low_in, Place, AreBoxesDue, HasBoxes, PassesBy, is_low_leaf, Passes, Ends, GoesOn, HasFirstBox, root_at, IsPassed, IsOver, Turns, IsWalked}
use Rattle.cert_checker.proofs.ForestLaws.{root_on_fits, tree_refused, forest_refused, forest_more, forest_parts, tree_of_root, tree_of_fork, levels_behind, behind_refused}

-- ---- the node of a step

node_of_step : (root : Root) (last : List (ℕ × ℤ)) → root_at (step_of root) (mults_after root last) ≡ root
node_of_step (low_leaf scale mults cause) last = refl
node_of_step (dead_leaf mults) last = refl
node_of_step (split_at split) last = refl

behind_node : (root : Root) (level : ℕ) (others : List ℕ) → levels_after (step_of root) level others ≡ levels_behind root level others
behind_node (low_leaf scale mults cause) level others = refl
behind_node (dead_leaf mults) level others = refl
behind_node (split_at split) level others = refl

-- a node was read on one of some levels
record IsNode (rows : ℕ) (levels : List ℕ) (before after : Reading) (root : Root) (left : List ℕ) : Type 0 where
  level : ℕ
  others : List ℕ
  levels_are : suc level ∷ others ≡ levels
  read : root_due rows before ≡ Ok (root, after)
  left_is : left ≡ levels_behind root level others

node : (rows : ℕ) (levels : List ℕ) (before after : Reading) (step : Step) (last mults : List (ℕ × ℤ)) (left : List ℕ) → (step ≡ End → ⊥) → Steps rows levels before (Ok step) after last mults left → IsNode rows levels before after (root_at step mults) left
node rows [] before after step last mults left n h = absurd (n h.step_is)
node rows (zero ∷ others) before after step last mults left n h = absurd (nothing_read before after h.root h.read)
node rows (suc level ∷ others) before after step last mults left n h =
    let is : root_at step mults ≡ h.root = ap₂ root_at h.step_is h.mults_is ∙ node_of_step h.root last in
    let back : suc level - 1 ≡ level = omega arith in
    record {
      level = level;
      others = others;
      levels_are = refl;
      read = subst (λ r. root_due rows before ≡ Ok (r, after)) (sym is) h.read;
      left_is = h.levels_is ∙ ap (λ l. levels_after step l others) back ∙ ap (λ s. levels_after s level others) h.step_is ∙ behind_node h.root level others ∙ ap (λ r. levels_behind r level others) (sym is);
    }

pub step_root : (rows : ℕ) (levels : List ℕ) (before after : Reading) (step : Step) (last mults : List (ℕ × ℤ)) (left : List ℕ) → rows ≤ 600 → (step ≡ End → ⊥) → Steps rows levels before (Ok step) after last mults left → IsRoot rows (root_at step mults)
step_root rows levels before after step last mults left few n h =
    let at = node rows levels before after step last mults left n h in
    root_on_fits rows (suc at.level) before after (root_at step mults) few at.read

-- ---- boxes

first_box : (road : Road) (level : ℕ) (others : List ℕ) (boxes : List BoxRange) → AreBoxesDue road (level ∷ others) boxes → (box : BoxRange) × (later : List BoxRange) × (boxes ≡ box ∷ later) × IsBoxOf road box
first_box road level others [] h = absurd h
first_box road level others (box ∷ boxes) h = (box, boxes, refl, h.0)

pub step_box : (road : Road) (place : Place) (rows : ℕ) (levels : List ℕ) (before after : Reading) (step : Step) (last mults : List (ℕ × ℤ)) (left : List ℕ) → (step ≡ End → ⊥) → Steps rows levels before (Ok step) after last mults left → HasBoxes road levels place → HasFirstBox road place
step_box road place rows levels before after step last mults left n h boxes = λ none.
    let at = node rows levels before after step last mults left n h in
    first_box road (suc at.level) at.others place.boxes (subst (λ ls. AreBoxesDue road ls place.boxes) (sym at.levels_are) (boxes none))

boxes_behind : (road : Road) (bound : Option Fraction) (root : Root) (line level : ℕ) (others : List ℕ) (boxes : List BoxRange) (found : Option Refusal) (boxes_now : List BoxRange) (found_now : Option Refusal) → (found ≡ None → AreBoxesDue road (suc level ∷ others) boxes) → PassesBy road bound root line boxes found boxes_now found_now → found_now ≡ None → AreBoxesDue road (levels_behind root level others) boxes_now
boxes_behind road bound root line level others boxes (Some refusal) boxes_now found_now h p none = cc
boxes_behind road bound root line level others [] None boxes_now found_now h p none = absurd p
boxes_behind road bound (low_leaf scale mults cause) line level others (box ∷ boxes) None boxes_now found_now h p none =
    subst (AreBoxesDue road others) (sym p.0) (h refl).1
boxes_behind road bound (dead_leaf mults) line level others (box ∷ boxes) None boxes_now found_now h p none =
    subst (AreBoxesDue road others) (sym p.0) (h refl).1
boxes_behind road bound (split_at split) line level others (box ∷ boxes) None boxes_now found_now h (inl p) none = let e = p.1 in cc
boxes_behind road bound (split_at split) line level others (box ∷ boxes) None boxes_now found_now h (inr p) none =
    let due = h refl in
    let cover = found_parts_cover road box due.0 split (Some (first_part box split, second_part box split)) (p.0, refl) in
    subst (AreBoxesDue road (level ∷ level ∷ others)) (sym p.1.1) (cover.first_fits, (cover.second_fits, due.1))

-- ---- what is found

fork_finds : (road : Road) (bound : Option Fraction) (split : Split) (first second : BoxTree) (later : List BoxTree) (box : BoxRange) (boxes : List BoxRange) (line : ℕ) (sooner found : Option Refusal) → IsSplitOf road box split → IsTreeRefusal road bound first (first_part box split) (line + 1) sooner → FindsIn road bound (second ∷ later) (second_part box split ∷ boxes) (line + 1 + line_count first) sooner found → FindsIn road bound (fork split first second ∷ later) (box ∷ boxes) line None found
fork_finds road bound split first second later box boxes line (Some refusal) found is f g =
    (Some refusal, (inr (is, (Some refusal, (f, refl))), g))
fork_finds road bound split first second later box boxes line None found is f g =
    let at : line + 1 + line_count first + line_count second ≡ line + (1 + (line_count first + line_count second)) = omega arith in
    (g.0, (inr (is, (None, (f, g.1.0))), subst (λ l. FindsIn road bound later boxes l g.0 found) at g.1.1))

finds_tree : (road : Road) (bound : Option Fraction) (tree : BoxTree) (later : List BoxTree) (boxes : List BoxRange) (line : ℕ) (found_before : Option Refusal) (boxes_now : List BoxRange) (found_now found : Option Refusal) → PassesBy road bound (root_of tree) line boxes found_before boxes_now found_now → FindsIn road bound (trees_behind tree later) boxes_now (line + root_lines (root_of tree)) found_now found → FindsIn road bound (tree ∷ later) boxes line found_before found
finds_tree road bound tree later boxes line (Some refusal) boxes_now found_now found p f =
    subst (λ o. FindsIn road bound (trees_behind tree later) boxes_now (line + root_lines (root_of tree)) o found) p f
finds_tree road bound tree later [] line None boxes_now found_now found p f = absurd p
finds_tree road bound (low scale mults cause) later (box ∷ boxes) line None boxes_now found_now found p f =
    (found_now, (p.1, subst (λ bs. FindsIn road bound later bs (line + (1 + length mults)) found_now found) p.0 f))
finds_tree road bound (dead mults) later (box ∷ boxes) line None boxes_now found_now found p f =
    (found_now, (p.1, subst (λ bs. FindsIn road bound later bs (line + (1 + length mults)) found_now found) p.0 f))
finds_tree road bound (fork split first second) later (box ∷ boxes) line None boxes_now found_now found (inl p) f =
    (refused C5 line, (inl (p.0, refl), subst (λ o. FindsIn road bound (first ∷ second ∷ later) boxes_now (line + 1) o found) p.1 f))
finds_tree road bound (fork split first second) later (box ∷ boxes) line None boxes_now found_now found (inr p) f =
    let g = subst (λ bs. FindsIn road bound (first ∷ second ∷ later) bs (line + 1) None found) p.1.1 (subst (λ o. FindsIn road bound (first ∷ second ∷ later) boxes_now (line + 1) o found) p.1.0 f) in
    fork_finds road bound split first second later box boxes line g.0 found p.0 g.1.0 g.1.1

or_assoc : (a b c : Bool) → ((a || b) || c) ≡ (a || (b || c))
or_assoc true b c = refl
or_assoc false b c = refl

low_tree : (tree : BoxTree) (later : List BoxTree) → (has_low tree || has_low_in later) ≡ (is_low_leaf (root_of tree) || has_low_in (trees_behind tree later))
low_tree (low scale mults cause) later = refl
low_tree (dead mults) later = refl
low_tree (fork split first second) later = or_assoc (has_low first) (has_low second) (has_low_in later)

-- ---- the trees behind a node are due where all of them are

record AreBehind (rows level : ℕ) (others : List ℕ) (root : Root) (before after : Reading) (trees : List BoxTree) : Type 0 where
  tree : BoxTree
  later : List BoxTree
  trees_are : trees ≡ trees_behind tree later
  root_is : root_of tree ≡ root
  read : forest_due rows (suc level ∷ others) before ≡ Ok (tree ∷ later, after)

behind : (rows level : ℕ) (others : List ℕ) (root : Root) (before between after : Reading) (trees : List BoxTree) → root_due rows before ≡ Ok (root, between) → forest_due rows (levels_behind root level others) between ≡ Ok (trees, after) → AreBehind rows level others root before after trees
behind rows level others (low_leaf scale mults cause) before between after trees r e = record {
  tree = low scale mults cause;
  later = trees;
  trees_are = refl;
  root_is = refl;
  read = forest_more rows (suc level) others before between after (low scale mults cause) trees (tree_of_root rows level before between (low_leaf scale mults cause) r) e;
}
behind rows level others (dead_leaf mults) before between after trees r e = record {
  tree = dead mults;
  later = trees;
  trees_are = refl;
  root_is = refl;
  read = forest_more rows (suc level) others before between after (dead mults) trees (tree_of_root rows level before between (dead_leaf mults) r) e;
}
behind rows level others (split_at split) before between after trees r e =
    let one = forest_parts rows level (level ∷ others) between after trees e in
    let two = forest_parts rows level others one.2 after one.1 one.5 in
    record {
      tree = fork split one.0 two.0;
      later = two.1;
      trees_are = one.3 ∙ ap (λ ts. one.0 ∷ ts) two.3;
      root_is = refl;
      read = forest_more rows (suc level) others before two.2 after (fork split one.0 two.0) two.1 (tree_of_fork rows level split before between one.2 two.2 one.0 two.0 r one.4 two.4) two.5;
    }

-- ---- one node

node_ends : (road : Road) (bound : Option Fraction) (rows level : ℕ) (others : List ℕ) (before between after : Reading) (root : Root) (place now : Place) (found : Option Refusal) (seen_low : Bool) → root_due rows before ≡ Ok (root, between) → Passes road bound root (before.number + 1) place now → Ends road bound rows (levels_behind root level others) between now found seen_low after → Ends road bound rows (suc level ∷ others) before place found seen_low after
node_ends road bound rows level others before between after root place now found seen_low r p e =
    let b = behind rows level others root before between after e.trees r e.read in
    let taken = root_on_after rows (suc level) before between root r in
    let passes = subst (λ r. PassesBy road bound r (before.number + 1) place.boxes place.found now.boxes now.found) (sym b.root_is) p.passes_by in
    let line : between.number + 1 ≡ before.number + 1 + root_lines (root_of b.tree) = rw b.root_is (omega (arith, taken.number_is)) in
    let finds = subst (λ l. FindsIn road bound (trees_behind b.tree b.later) now.boxes l now.found found) line (subst (λ ts. FindsIn road bound ts now.boxes (between.number + 1) now.found found) b.trees_are e.finds) in
    record {
      trees = b.tree ∷ b.later;
      read = b.read;
      finds = finds_tree road bound b.tree b.later place.boxes (before.number + 1) place.found now.boxes now.found found passes finds;
      low_is = e.low_is ∙ ap₂ (λ s ts. s || has_low_in ts) p.low_is b.trees_are
          ∙ or_assoc place.seen_low (is_low_leaf root) (has_low_in (trees_behind b.tree b.later))
          ∙ ap (λ r. place.seen_low || (is_low_leaf r || has_low_in (trees_behind b.tree b.later))) (sym b.root_is)
          ∙ ap (λ s. place.seen_low || s) (sym (low_tree b.tree b.later));
    }

some_lines : (root : Root) → 0 < root_lines root
some_lines (low_leaf scale mults cause) = omega arith
some_lines (dead_leaf mults) = omega arith
some_lines (split_at split) = omega arith

pub node_passed : (road : Road) (bound : Option Fraction) (rows : ℕ) (levels : List ℕ) (before after : Reading) (step : Step) (last mults : List (ℕ × ℤ)) (left : List ℕ) (place now : Place) → (step ≡ End → ⊥) → Steps rows levels before (Ok step) after last mults left → HasBoxes road levels place → Passes road bound (root_at step mults) (before.number + 1) place now → IsPassed road bound rows levels before place left after now
node_passed road bound rows levels before after step last mults left place now n h boxes p =
    let root = root_at step mults in
    let at = node rows levels before after step last mults left n h in
    let taken = root_on_after rows (suc at.level) before after root at.read in
    let some = some_lines root in
    record {
      goes_on = record {
        ends = λ found seen_low end e.
            subst (λ ls. Ends road bound rows ls before place found seen_low end) at.levels_are
            (node_ends road bound rows at.level at.others before after end root place now found seen_low at.read p
            (subst (λ ls. Ends road bound rows ls after now found seen_low end) at.left_is e));
        refused = λ line e.
            subst (λ ls. forest_due rows ls before ≡ Err line) at.levels_are
            (behind_refused rows at.level at.others root before after line at.read (subst (λ ls. forest_due rows ls after ≡ Err line) at.left_is e));
      };
      boxes = subst (λ ls. HasBoxes road ls now) (sym at.left_is)
          (boxes_behind road bound root (before.number + 1) at.level at.others place.boxes place.found now.boxes now.found
          (subst (λ ls. HasBoxes road ls place) (sym at.levels_are) boxes) p.passes_by);
      fewer = omega (arith, taken.left_is, some);
    }

pub node_refused : (rows : ℕ) (levels : List ℕ) (before after : Reading) (line : ℕ) (last mults : List (ℕ × ℤ)) (left : List ℕ) → Steps rows levels before (Err line) after last mults left → forest_due rows levels before ≡ Err line
node_refused rows [] before after line last mults left h = absurd h
node_refused rows (level ∷ others) before after line last mults left h =
    forest_refused rows level others before line (tree_refused rows level before line h)

-- ---- a whole tree

pub goes_on_start : (road : Road) (bound : Option Fraction) (rows : ℕ) (levels : List ℕ) (lines : Reading) (place : Place) → GoesOn road bound rows levels lines place levels lines place
goes_on_start road bound rows levels lines place = record { ends = λ found seen_low after e. e; refused = λ line e. e }

pub goes_on_then : (road : Road) (bound : Option Fraction) (rows : ℕ) (l m n : List ℕ) (a b c : Reading) (p q r : Place) → GoesOn road bound rows l a p m b q → GoesOn road bound rows m b q n c r → GoesOn road bound rows l a p n c r
goes_on_then road bound rows l m n a b c p q r g h =
    record { ends = λ found seen_low after e. g.ends found seen_low after (h.ends found seen_low after e); refused = λ line e. g.refused line (h.refused line e) }

or_false : (b : Bool) → b ≡ (b || false)
or_false true = refl
or_false false = refl

finds_none : (road : Road) (bound : Option Fraction) (boxes : List BoxRange) (line : ℕ) (found : Option Refusal) → FindsIn road bound [] boxes line found found
finds_none road bound boxes line None = refl
finds_none road bound boxes line (Some refusal) = refl

over : (road : Road) (bound : Option Fraction) (rows : ℕ) (lines : Reading) (place : Place) → Ends road bound rows [] lines place place.found place.seen_low lines
over road bound rows lines place =
    record { trees = []; read = refl; finds = finds_none road bound place.boxes (lines.number + 1) place.found; low_is = or_false place.seen_low }

only_found : (road : Road) (bound : Option Fraction) (boxes : List BoxRange) (line : ℕ) (sooner found : Option Refusal) → FindsIn road bound [] boxes line sooner found → sooner ≡ found
only_found road bound boxes line None found f = sym f
only_found road bound boxes line (Some refusal) found f = sym f

abbrev start_place : Road → Place
start_place road = record { boxes = root_box road ∷ []; found = None; seen_low = false }

whole_ends : (road : Road) (bound : Option Fraction) (lines after : Reading) (walked : Walked) → Ends road bound (row_count road) (most_levels ∷ []) lines (start_place road) walked.found walked.has_low after → IsWalked road bound lines walked after
whole_ends road bound lines after walked e =
    let parts = forest_parts (row_count road) most_levels [] lines after e.trees e.read in
    let none = ok_parts [] parts.1 parts.2 after parts.5 in
    let trees : e.trees ≡ parts.0 ∷ [] = parts.3 ∙ ap (λ ts. parts.0 ∷ ts) (sym none.0) in
    let finds = subst (λ ts. FindsIn road bound ts (root_box road ∷ []) (lines.number + 1) None walked.found) trees e.finds in
    record {
      tree = parts.0;
      read = parts.4 ∙ ap (λ r. Ok (parts.0, r)) none.1;
      finds = subst (IsTreeRefusal road bound parts.0 (root_box road) (lines.number + 1)) (only_found road bound [] (lines.number + 1 + line_count parts.0) finds.0 walked.found finds.1.1) finds.1.0;
      low_is = e.low_is ∙ ap has_low_in trees ∙ sym (or_false (has_low parts.0));
    }

pub walked : (road : Road) (bound : Option Fraction) (start lines after : Reading) (levels : List ℕ) (place now : Place) (result : Walked) → GoesOn road bound (row_count road) (most_levels ∷ []) start (start_place road) levels lines place → IsOver levels lines place after now → result.found ≡ now.found → result.has_low ≡ now.seen_low → IsWalked road bound start result after
walked road bound start lines after levels place now result g o f l =
    let ends = over road bound (row_count road) lines place in
    let there = subst (λ ls. Ends road bound (row_count road) ls lines place place.found place.seen_low lines) (sym o.none_due) ends in
    let whole = g.ends place.found place.seen_low lines there in
    let found_is : place.found ≡ result.found = ap (λ (p : Place). p.found) (sym o.place_is) ∙ sym f in
    let low_is : place.seen_low ≡ result.has_low = ap (λ (p : Place). p.seen_low) (sym o.place_is) ∙ sym l in
    whole_ends road bound start after result
    (subst (λ r. Ends road bound (row_count road) (most_levels ∷ []) start (start_place road) result.found result.has_low r) (sym o.lines_are)
    (subst (λ s. Ends road bound (row_count road) (most_levels ∷ []) start (start_place road) result.found s lines) low_is
    (subst (λ x. Ends road bound (row_count road) (most_levels ∷ []) start (start_place road) x place.seen_low lines) found_is whole)))

pub walk_refused : (road : Road) (bound : Option Fraction) (start lines : Reading) (levels : List ℕ) (place : Place) (line : ℕ) → GoesOn road bound (row_count road) (most_levels ∷ []) start (start_place road) levels lines place → forest_due (row_count road) levels lines ≡ Err line → tree_due (row_count road) most_levels start ≡ Err line
walk_refused road bound start lines levels place line g e = only_tree (tree_due (row_count road) most_levels start) refl (g.refused line e)
  where
    only_tree : (o : Result (BoxTree × Reading) ℕ) → tree_due (row_count road) most_levels start ≡ o → forest_due (row_count road) (most_levels ∷ []) start ≡ Err line → tree_due (row_count road) most_levels start ≡ Err line
    only_tree (Err n) is e =
        let same = forest_refused (row_count road) most_levels [] start n is in
        let n_is : n ≡ line = cc in is ∙ ap (λ k. Err k) n_is
    only_tree (Ok read) is e =
        let same = forest_more (row_count road) most_levels [] start read.1 read.1 read.0 [] is refl in cc

pub over_turn : (road : Road) (bound : Option Fraction) (rows : ℕ) (levels : List ℕ) (lines : Reading) (place : Place) (turned : Bool) (left : List ℕ) (after : Reading) (now : Place) → turned ≡ false → Turns road bound rows levels lines place (Ok turned) left after now → IsOver levels lines place after now
over_turn road bound rows levels lines place true left after now e h = cc
over_turn road bound rows levels lines place false left after now e h = h
