-- What of a tree stays when it is carried: its splits, its widths, that each leaf proves what it can, and that it has a text.
use Rattle.std.proofs.Common.{◌≡◌, ℕ, zero, suc, Option, Some, None, Bool, true, false, ◌||◌, List, refl, sym, ap, subst, ⊎_elim}
use Rattle.std.specs.Prelude.{ℤ, ◌<ℤ◌, pos}
use Rattle.algebra.specs.Scale.{IsScale}
use Rattle.programs.specs.Programs.{row_count as program_row_count}
use Rattle.numbers.specs.Fractions.{Fraction}
use Rattle.road_types.specs.declared.road.Road.{Road}
use Rattle.road_types.specs.RoadPrograms.{row_count}
use Rattle.milp_builder.specs.BoxPrograms.{box_program}
use Rattle.milp_builder.specs.Parts.{IsSplitOf, first_part, second_part}
use Rattle.milp_builder.specs.declared.boxes.BoxRange.{BoxRange}
use Rattle.cert_tree.specs.Trees.{BoxTree, low, dead, fork, AreMultipliersBehind, IsWithinWidths}
use Rattle.cert_tree.specs.Soundness.{SplitsFit, box_value, has_low}
use Rattle.cert_tree.specs.LeastBounds.{IsOfSomeLeaf, IsLeastOfLeaves}
use Rattle.cert_tree.specs.Proving.{AreSigned, HasProvingLeaves}
use Rattle.cert_tree.proofs.LeafLemmas.{box_rows}
use Rattle.cert_text.specs.NodeText.{IsSpelledTree, IsSpelledSplit}
use Rattle.cert_text.specs.Validity.{IsBoundRight}
use Rattle.carried_bounds.specs.Carried.{IsCarriedTree}

-- multipliers on the rows of a box stand on the road's
on_road : (road : Road) (box : BoxRange) (mults : List (ℕ × ℤ)) → AreMultipliersBehind (program_row_count (box_program road box)) 0 mults → AreMultipliersBehind (row_count road) 0 mults
on_road road box mults h = subst (λ n. AreMultipliersBehind n 0 mults) (box_rows road box) h

pub splits_stay : (road : Road) (given carried : BoxTree) (box : BoxRange) → SplitsFit road given box → IsCarriedTree road given box carried → SplitsFit road carried box
splits_stay road (low s m c) (low t n d) box f h = tt
splits_stay road (low s m c) (dead n) box f h = absurd h
splits_stay road (low s m c) (fork t x y) box f h = absurd h
splits_stay road (dead m) (low t n d) box f h = absurd h
splits_stay road (dead m) (dead n) box f h = tt
splits_stay road (dead m) (fork t x y) box f h = absurd h
splits_stay road (fork s a b) (low t n d) box f h = absurd h
splits_stay road (fork s a b) (dead n) box f h = absurd h
splits_stay road (fork s a b) (fork t x y) box f h =
    let first = splits_stay road a x (first_part box s) f.1 h.1 in
    let second = splits_stay road b y (second_part box s) f.2 h.2 in
    subst (λ r. IsSplitOf road box r × SplitsFit road x (first_part box r) × SplitsFit road y (second_part box r)) (sym h.0) (f.0, first, second)

pub widths_stay : (road : Road) (given carried : BoxTree) (box : BoxRange) → IsWithinWidths (row_count road) given → IsCarriedTree road given box carried → IsWithinWidths (row_count road) carried
widths_stay road (low s m c) (low t n d) box w h = (subst IsScale (sym h.0) w.0, on_road road box n h.2.sound.on_rows)
widths_stay road (low s m c) (dead n) box w h = absurd h
widths_stay road (low s m c) (fork t x y) box w h = absurd h
widths_stay road (dead m) (low t n d) box w h = absurd h
widths_stay road (dead m) (dead n) box w h = subst (AreMultipliersBehind (row_count road) 0) (sym h) w
widths_stay road (dead m) (fork t x y) box w h = absurd h
widths_stay road (fork s a b) (low t n d) box w h = absurd h
widths_stay road (fork s a b) (dead n) box w h = absurd h
widths_stay road (fork s a b) (fork t x y) box w h = (widths_stay road a x (first_part box s) w.0 h.1, widths_stay road b y (second_part box s) w.1 h.2)

pub leaves_prove : (road : Road) (given carried : BoxTree) (box : BoxRange) → HasProvingLeaves road given box → IsCarriedTree road given box carried → HasProvingLeaves road carried box
leaves_prove road (low s m c) (low t n d) box p h = h.2.sound.right_signs
leaves_prove road (low s m c) (dead n) box p h = absurd h
leaves_prove road (low s m c) (fork t x y) box p h = absurd h
leaves_prove road (dead m) (low t n d) box p h = absurd h
leaves_prove road (dead m) (dead n) box p h = subst (λ ms. AreSigned road box ms × (pos 0 <ℤ box_value road box (pos 0) ms)) (sym h) p
leaves_prove road (dead m) (fork t x y) box p h = absurd h
leaves_prove road (fork s a b) (low t n d) box p h = absurd h
leaves_prove road (fork s a b) (dead n) box p h = absurd h
leaves_prove road (fork s a b) (fork t x y) box p h =
    let first = leaves_prove road a x (first_part box s) p.0 h.1 in
    let second = leaves_prove road b y (second_part box s) p.1 h.2 in
    subst (λ r. HasProvingLeaves road x (first_part box r) × HasProvingLeaves road y (second_part box r)) (sym h.0) (first, second)

pub text_stays : (road : Road) (levels : ℕ) (given carried : BoxTree) (box : BoxRange) → IsSpelledTree (row_count road) levels given → IsCarriedTree road given box carried → IsSpelledTree (row_count road) levels carried
text_stays road zero given carried box w h = absurd w
text_stays road (suc levels) (low s m c) (low t n d) box w h = (subst IsScale (sym h.0) w.0, on_road road box n h.2.sound.on_rows)
text_stays road (suc levels) (low s m c) (dead n) box w h = absurd h
text_stays road (suc levels) (low s m c) (fork t x y) box w h = absurd h
text_stays road (suc levels) (dead m) (low t n d) box w h = absurd h
text_stays road (suc levels) (dead m) (dead n) box w h = subst (AreMultipliersBehind (row_count road) 0) (sym h) w
text_stays road (suc levels) (dead m) (fork t x y) box w h = absurd h
text_stays road (suc levels) (fork s a b) (low t n d) box w h = absurd h
text_stays road (suc levels) (fork s a b) (dead n) box w h = absurd h
text_stays road (suc levels) (fork s a b) (fork t x y) box w h =
    (subst IsSpelledSplit (sym h.0) w.0, text_stays road levels a x (first_part box s) w.1 h.1, text_stays road levels b y (second_part box s) w.2 h.2)

-- the widths that a text keeps
pub widths_of_text : (rows levels : ℕ) (tree : BoxTree) → IsSpelledTree rows levels tree → IsWithinWidths rows tree
widths_of_text rows zero tree w = absurd w
widths_of_text rows (suc levels) (low s m c) w = w
widths_of_text rows (suc levels) (dead m) w = w
widths_of_text rows (suc levels) (fork s a b) w = (widths_of_text rows levels a w.1, widths_of_text rows levels b w.2)

-- ---- whether a bound stands

or_left : (a b : Bool) → a ≡ true → (a || b) ≡ true
or_left true b e = refl
or_left false b e = ap (λ c. c || b) e

or_right : (a b : Bool) → b ≡ true → (a || b) ≡ true
or_right true b e = refl
or_right false b e = e

leaf_is_low : (road : Road) (bound : Fraction) (tree : BoxTree) (box : BoxRange) → IsOfSomeLeaf road bound tree box → has_low tree ≡ true
leaf_is_low road bound (low s m c) box h = refl
leaf_is_low road bound (dead m) box h = absurd h
leaf_is_low road bound (fork s a b) box h =
    ⊎_elim (λ i. or_left (has_low a) (has_low b) (leaf_is_low road bound a (first_part box s) i)) (λ i. or_right (has_low a) (has_low b) (leaf_is_low road bound b (second_part box s) i)) h

pub least_is_right : (road : Road) (tree : BoxTree) (box : BoxRange) (bound : Option Fraction) → IsLeastOfLeaves road tree box bound → IsBoundRight bound (has_low tree)
least_is_right road tree box None h = h
least_is_right road tree box (Some bound) h = leaf_is_low road bound tree box h.2
