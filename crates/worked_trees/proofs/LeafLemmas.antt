-- Trees of one leaf.
use Rattle.std.proofs.Common.{◌≡◌, ℕ, ℤ, ◌≤◌, ◌^◌, List, Option, Some, refl, sym, ap₂, subst, arith, ◌∙◌}
use Rattle.std.specs.Prelude.{IsTrue, IfSome, None}
use Rattle.std.proofs.lemmas.Bool.{false≢true}
use Rattle.algebra.specs.Scale.{IsScale}
use Rattle.road_types.specs.declared.road.Road.{Road}
use Rattle.road_types.specs.RoadPrograms.{row_count}
use Rattle.milp_builder.specs.Parts.{IsSplitOf, AreParts}
use Rattle.milp_builder.specs.declared.boxes.BoxRange.{BoxRange}
use Rattle.milp_builder.specs.declared.boxes.Split.{Split}
use Rattle.cert_tree.specs.Trees.{BoxTree, low, dead, fork, box_tree_of, node_count, AreMultipliersBehind, IsWithinWidths}
use Rattle.cert_tree.specs.declared.tree.Tree.{Tree}
use Rattle.cert_tree.specs.declared.tree.Why.{Why}
use Rattle.search_trees.specs.RootedTrees.{RootedTree, is_leaf, IsLeafOf}
use Rattle.search_trees.specs.Places.{is_leaf_at, box_at}
use Rattle.search_trees.proofs.RootedLemmas.{one_node}

pub low_is_leaf : (road : Road) (leaf : Tree) (scale : ℤ) (mults : List (ℕ × ℤ)) (cause : Option Why) → box_tree_of leaf ≡ low scale mults cause
    → IsScale scale → AreMultipliersBehind (row_count road) 0 mults → IsLeafOf road leaf
low_is_leaf road leaf scale mults cause e s m =
    record { one = subst (λ (t : BoxTree). IsTrue (is_leaf t)) (sym e) refl; within = subst (IsWithinWidths (row_count road)) (sym e) (s, m) }

pub dead_is_leaf : (road : Road) (leaf : Tree) (mults : List (ℕ × ℤ)) → box_tree_of leaf ≡ dead mults → AreMultipliersBehind (row_count road) 0 mults → IsLeafOf road leaf
dead_is_leaf road leaf mults e m =
    record { one = subst (λ (t : BoxTree). IsTrue (is_leaf t)) (sym e) refl; within = subst (IsWithinWidths (row_count road)) (sym e) m }

pub few_nodes : (tree : BoxTree) → IsTrue (is_leaf tree) → node_count tree ≤ 2 ^ 26
few_nodes tree h = let one = one_node tree h in omega (arith, one)

pub first_place : (tree : BoxTree) → IsTrue (is_leaf tree) → IsTrue (is_leaf_at tree 0)
first_place (low scale mults cause) h = refl
first_place (dead mults) h = refl
first_place (fork split first second) h = absurd (false≢true h)

pub splits_first : (road : Road) (tree : BoxTree) (box : BoxRange) (split : Split) → IsTrue (is_leaf tree) → IsSplitOf road box split → IsSplitOf road (box_at tree box 0) split
splits_first road (low scale mults cause) box split h s = s
splits_first road (dead mults) box split h s = s
splits_first road (fork split first second) box other h s = absurd (false≢true h)

pub are_parts : (road : Road) (box first second one two : BoxRange) (split : Split) → AreParts road box split (Some (first, second))
    → one ≡ first → two ≡ second → AreParts road box split (Some (one, two))
are_parts road box first second one two split p f s = (p.0, ap₂ (λ (a b : BoxRange). (a, b)) f s ∙ p.1)

-- the roots of two trees are the parts of a split, where both were made
pub both_parts : (road : Road) (box one two : BoxRange) (split : Split) (first second : Option RootedTree) → AreParts road box split (Some (one, two))
    → IfSome first (λ (t : RootedTree). t.root ≡ one) → IfSome second (λ (t : RootedTree). t.root ≡ two)
    → IfSome first (λ (a : RootedTree). IfSome second (λ (b : RootedTree). AreParts road box split (Some (a.root, b.root))))
both_parts road box one two split None second p f s = tt
both_parts road box one two split (Some a) None p f s = tt
both_parts road box one two split (Some a) (Some b) p f s = are_parts road box one two a.root b.root split p f s
