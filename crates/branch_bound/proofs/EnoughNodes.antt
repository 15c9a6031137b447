-- Where the nodes suffice for as many leaves as the road can have, and no simplex stopped, no leaf is left open.
use Rattle.std.proofs.Common.{◌≡◌, ℕ, ◌+◌, ◌*◌, Option, Some, None, List, [], refl, arith, ⊎_elim}
use Rattle.std.specs.Prelude.{ℤ, pos, ◌<ℤ◌}
use Rattle.std.proofs.lemmas.Int.{ints}
use Rattle.numbers.specs.Fractions.{Fraction}
use Rattle.road_types.specs.Accepted.{IsAccepted}
use Rattle.road_types.specs.declared.road.Road.{Road}
use Rattle.milp_builder.specs.Boxes.{IsBoxOf, root_box}
use Rattle.milp_builder.specs.BoxPrograms.{box_program}
use Rattle.milp_builder.specs.Parts.{first_part, second_part}
use Rattle.milp_builder.specs.declared.boxes.BoxRange.{BoxRange}
use Rattle.milp_builder.proofs.Cover.{found_parts_cover}
use Rattle.milp_builder.proofs.RootBox.{root_box_fits}
use Rattle.cert_tree.specs.Trees.{BoxTree, low, dead, fork, node_count}
use Rattle.cert_tree.specs.Soundness.{SplitsFit, box_value, IsSound}
use Rattle.cert_tree.specs.declared.tree.Why.{Why}
use Rattle.branch_bound.specs.Leaves.{leaf_count}
use Rattle.branch_bound.specs.Noted.{Noted, low_with, dead_with, fork_with, tree_of, IsShownLow, AreShown}
use Rattle.branch_bound.specs.Endings.{HasOpenBelow, IsNoStop, HasNoStops, HasNodesForAll}
use Rattle.branch_bound.specs.declared.notes.NodeNote.{NodeNote}
use Rattle.branch_bound.specs.declared.notes.NodeNote.TheVariants.{Fractional, Closed, Dead, Pivots, Wide, Limit, Nodes}
use Rattle.branch_bound.proofs.AskedSplits.{asked_splits}
use Rattle.branch_bound.proofs.LeavesLaw.{has_few_leaves}

-- the splits of a sound tree can be made
pub splits_of_sound : (road : Road) (bound : Option Fraction) (tree : BoxTree) (box : BoxRange) → IsSound road bound tree box → SplitsFit road tree box
splits_of_sound road bound (low scale mults cause) box h = tt
splits_of_sound road bound (dead mults) box h = tt
splits_of_sound road bound (fork split first second) box h =
    (h.0, splits_of_sound road bound first (first_part box split) h.1, splits_of_sound road bound second (second_part box split) h.2)

-- a tree has one leaf more than splits
leaves_and_nodes : (tree : BoxTree) → node_count tree + 1 ≡ 2 * leaf_count tree
leaves_and_nodes (low scale mults cause) = refl
leaves_and_nodes (dead mults) = refl
leaves_and_nodes (fork split first second) = let a = leaves_and_nodes first in let b = leaves_and_nodes second in omega arith

-- the tree with one more leaf, for which nodes are not left
record HasOneMore (road : Road) (count : ℕ) (tree : BoxTree) (box : BoxRange) : Type 0 where
  more : BoxTree
  fits : SplitsFit road more box
  leaves : leaf_count more ≡ leaf_count tree + 1
  spent : road.nodes <ℤ pos (count + 2)

module _ (road : Road) (a : IsAccepted road) (cost : Option Fraction) (count : ℕ) where
  one_more_leaf : (scale : ℤ) (mults : List (ℕ × ℤ)) (cause : Option Why) (note : NodeNote) (box : BoxRange) → IsBoxOf road box
      → IsShownLow road cost count (box_program road box) (box_value road box scale mults, scale) cause note → IsNoStop note
      → HasOpenBelow road cost (low_with scale mults cause note) box → HasOneMore road count (low scale mults cause) box
  one_more_leaf scale mults (Some why) (Nodes trail den point scale' mults') box fits shown none is_open =
      let asked = asked_splits road a box fits den shown.1.den_from_one point shown.1.meets shown.2 in
      record { more = fork asked.0 (dead []) (dead []); fits = (asked.1.0, tt, tt); leaves = refl; spent = shown.3 }
  one_more_leaf scale mults None note box fits shown none is_open = absurd is_open
  one_more_leaf scale mults (Some why) Closed box fits shown none is_open = let e = shown.0 in cc
  one_more_leaf scale mults (Some why) Dead box fits shown none is_open = absurd shown
  one_more_leaf scale mults (Some why) (Fractional trail den point scale' mults') box fits shown none is_open = absurd shown
  one_more_leaf scale mults (Some why) (Pivots trail) box fits shown none is_open = absurd none
  one_more_leaf scale mults (Some why) (Wide trail op) box fits shown none is_open = absurd none
  one_more_leaf scale mults (Some why) (Limit trail number) box fits shown none is_open = absurd none

  one_more : (noted : Noted) (box : BoxRange) → IsBoxOf road box → SplitsFit road (tree_of noted) box → AreShown road cost count noted box
      → HasNoStops noted → HasOpenBelow road cost noted box → HasOneMore road count (tree_of noted) box
  one_more (low_with scale mults cause note) box fits splits shown none is_open = one_more_leaf scale mults cause note box fits shown none is_open
  one_more (dead_with mults note) box fits splits shown none is_open = absurd is_open
  one_more (fork_with split note first second) box fits splits shown none is_open =
      let cover = found_parts_cover road box fits split (Some (first_part box split, second_part box split)) (splits.0, refl) in
      ⊎_elim
      (λ o.
      let m = one_more first (first_part box split) cover.first_fits splits.1 shown.1 none.1 o in
      record { more = fork split m.more (tree_of second); fits = (splits.0, m.fits, splits.2); leaves = let e = m.leaves in omega arith; spent = m.spent })
      (λ o.
      let m = one_more second (second_part box split) cover.second_fits splits.2 shown.2 none.2 o in
      record { more = fork split (tree_of first) m.more; fits = (splits.0, splits.1, m.fits); leaves = let e = m.leaves in omega arith; spent = m.spent })
      is_open

  pub none_open : (noted : Noted) → SplitsFit road (tree_of noted) (root_box road) → AreShown road cost count noted (root_box road)
      → count ≡ node_count (tree_of noted) → HasNoStops noted → HasNodesForAll road → HasOpenBelow road cost noted (root_box road) → ⊥
  none_open noted splits shown counted none enough is_open =
      let m = one_more noted (root_box road) (root_box_fits road a.well_formed) splits shown none is_open in
      let few = (has_few_leaves road a).each m.more m.fits in
      let nodes = leaves_and_nodes (tree_of noted) in
      omega (arith, ints, m.leaves, m.spent, few, nodes, enough)
