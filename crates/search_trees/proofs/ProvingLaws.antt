-- A tree whose leaves prove what they can proves its least bound.
use Rattle.std.proofs.Common.{◌≡◌, ℕ, ℤ, false, Option, Some, None, List, refl, sym, subst}
use Rattle.std.specs.Prelude.{Result, Ok, Err, IfOk}
use Rattle.std.proofs.lemmas.Bool.{false≢true}
use Rattle.numbers.specs.Fractions.{Fraction}
use Rattle.road_types.specs.declared.road.Road.{Road}
use Rattle.road_types.specs.Accepted.{IsAccepted}
use Rattle.road_types.specs.RoadPrograms.{row_count}
use Rattle.milp_builder.specs.BoxPrograms.{box_program}
use Rattle.milp_builder.specs.Boxes.{IsBoxOf}
use Rattle.milp_builder.specs.Parts.{first_part, second_part}
use Rattle.milp_builder.specs.declared.boxes.BoxRange.{BoxRange}
use Rattle.cert_tree.specs.Trees.{BoxTree, low, dead, fork, box_tree_of, IsWithinWidths, AreMultipliersBehind}
use Rattle.cert_tree.specs.Soundness.{AreSound, IsSound, SplitsFit, Bounds, has_low}
use Rattle.cert_tree.specs.LeastBounds.{IsAtMostLeaves, IsLeastOfLeaves}
use Rattle.cert_tree.proofs.LeafLemmas.{on_rows}
use Rattle.cert_tree.proofs.Lift.{sound_bounds}
use Rattle.cert_tree.specs.declared.tree.Tree.{Tree}
use Rattle.search_trees.specs.RootedTrees.{RootedTree, FitsRoad}
use Rattle.cert_tree.specs.Proving.{AreSigned, HasProvingLeaves}
use Rattle.search_trees.proofs.LeastLemmas.{neither}

are_sound : (road : Road) (box : BoxRange) (mults : List (ℕ × ℤ)) → AreMultipliersBehind (row_count road) 0 mults → AreSigned road box mults → AreSound road box mults
are_sound road box mults on signed = record { on_rows = on_rows road box (box_program road box) mults refl on; right_signs = signed }

-- a bound of at most each low leaf's is proved
pub sound_within : (road : Road) (bound : Fraction) (tree : BoxTree) (box : BoxRange) → SplitsFit road tree box → IsWithinWidths (row_count road) tree
    → HasProvingLeaves road tree box → IsAtMostLeaves road bound tree box → IsSound road (Some bound) tree box
sound_within road bound (low scale mults cause) box s w p h = record { scale_within = w.0; mults_sound = are_sound road box mults w.1 p; bounded = h }
sound_within road bound (dead mults) box s w p h = record { mults_sound = are_sound road box mults w p.0; above_zero = p.1 }
sound_within road bound (fork split first second) box s w p h =
    (s.0, sound_within road bound first (first_part box split) s.1 w.0 p.0 h.0, sound_within road bound second (second_part box split) s.2 w.1 p.1 h.1)

-- dead leaves alone prove that there is no plan
pub sound_without : (road : Road) (tree : BoxTree) (box : BoxRange) → SplitsFit road tree box → IsWithinWidths (row_count road) tree
    → HasProvingLeaves road tree box → has_low tree ≡ false → IsSound road None tree box
sound_without road (low scale mults cause) box s w p h = absurd (false≢true (sym h))
sound_without road (dead mults) box s w p h = record { mults_sound = are_sound road box mults w p.0; above_zero = p.1 }
sound_without road (fork split first second) box s w p h =
    let none = neither (has_low first) (has_low second) h in
    (s.0, sound_without road first (first_part box split) s.1 w.0 p.0 none.0, sound_without road second (second_part box split) s.2 w.1 p.1 none.1)

pub least_bounds : (road : Road) → IsAccepted road → (tree : BoxTree) (box : BoxRange) (bound : Option Fraction) → IsBoxOf road box → SplitsFit road tree box
    → IsWithinWidths (row_count road) tree → HasProvingLeaves road tree box → IsLeastOfLeaves road tree box bound → Bounds road bound box
least_bounds road a tree box None fits s w p least = sound_bounds road a None tt tree box fits (sound_without road tree box s w p least)
least_bounds road a tree box (Some bound) fits s w p least =
    sound_bounds road a (Some bound) least.0.positive tree box fits (sound_within road bound tree box s w p least.1)

-- where memory was had
pub bounds_found : {E : Type 0} (road : Road) → IsAccepted road → (tree : RootedTree) (other : Tree) (box : BoxRange) (result : Result (Option Fraction) E)
    → FitsRoad road tree → HasProvingLeaves road (box_tree_of tree.tree) tree.root → other ≡ tree.tree → box ≡ tree.root
    → IfOk result (λ (bound : Option Fraction). IsLeastOfLeaves road (box_tree_of other) box bound) → IfOk result (λ (bound : Option Fraction). Bounds road bound tree.root)
bounds_found road a tree other box (Ok bound) fits p e b least =
    let of_tree = subst (λ (t : Tree). IsLeastOfLeaves road (box_tree_of t) box bound) e least in
    let on_root = subst (λ (x : BoxRange). IsLeastOfLeaves road (box_tree_of tree.tree) x bound) b of_tree in
    least_bounds road a (box_tree_of tree.tree) tree.root bound fits.root fits.splits fits.within p on_root
bounds_found road a tree other box (Err error) fits p e b least = least
