-- What a tree that fits a road keeps, leaf by leaf.
use Rattle.std.proofs.Common.{◌≡◌, ℕ, ℤ, ◌+◌, ◌≤◌, List, [], ◌∷◌, true, Some, refl, sym, ap, subst, ◌∙◌, arith}
use Rattle.std.proofs.lemmas.Bool.{false≢true}
use Rattle.std.specs.Prelude.{unsigned_abs}
use Rattle.std.proofs.lemmas.List.Elements.{All-nil, All-cons}
use Rattle.algebra.specs.Scale.{greatest_scale}
use Rattle.road_types.specs.declared.road.Road.{Road}
use Rattle.road_types.specs.RoadPrograms.{row_count}
use Rattle.milp_builder.specs.Boxes.{IsBoxOf}
use Rattle.milp_builder.specs.Parts.{IsSplitOf, first_part, second_part, AreParts}
use Rattle.milp_builder.specs.declared.boxes.BoxRange.{BoxRange}
use Rattle.milp_builder.specs.declared.boxes.Split.{Split}
use Rattle.cert_tree.specs.Trees.{BoxTree, low, dead, fork, box_tree_of, node_count, AreMultipliersBehind, IsWithinWidths}
use Rattle.cert_tree.specs.Soundness.{SplitsFit}
use Rattle.cert_tree.specs.declared.tree.Tree.{Tree}
use Rattle.search_trees.specs.RootedTrees.{RootedTree, AreNarrowPairs, IsNarrow, is_leaf, IsLeafOf, FitsRoad}
use Rattle.search_trees.specs.Places.{is_leaf_at, box_at, with_tree_at}
use Rattle.search_trees.proofs.PlaceLemmas.{node_count-with, within-with, fit-with}

narrow_mults : (rows before : ℕ) (mults : List (ℕ × ℤ)) → AreMultipliersBehind rows before mults → AreNarrowPairs mults
narrow_mults rows before [] h = let P : ℕ × ℤ → Type 0 = λ m. unsigned_abs m.1 ≤ greatest_scale in All-nil P
narrow_mults rows before (mult ∷ mults) h =
    let P : ℕ × ℤ → Type 0 = λ m. unsigned_abs m.1 ≤ greatest_scale in All-cons P mult mults h.0.within (narrow_mults rows mult.0 mults h.1)

pub narrow : (rows : ℕ) (tree : BoxTree) → IsWithinWidths rows tree → IsNarrow tree
narrow rows (low scale mults cause) h = (h.0, narrow_mults rows 0 mults h.1)
narrow rows (dead mults) h = narrow_mults rows 0 mults h
narrow rows (fork split first second) h = (narrow rows first h.0, narrow rows second h.1)

-- one leaf
pub one_node : (tree : BoxTree) → is_leaf tree ≡ true → node_count tree ≡ 1
one_node (low scale mults cause) h = refl
one_node (dead mults) h = refl
one_node (fork split first second) h = absurd (false≢true h)

pub no_splits : (road : Road) (tree : BoxTree) (box : BoxRange) → is_leaf tree ≡ true → SplitsFit road tree box
no_splits road (low scale mults cause) box h = tt
no_splits road (dead mults) box h = tt
no_splits road (fork split first second) box h = absurd (false≢true h)

pub leaf_fits : (road : Road) (root : BoxRange) (leaf : Tree) → IsBoxOf road root → IsLeafOf road leaf → FitsRoad road (record { tree = leaf; root = root })
leaf_fits road root leaf fits l = record { root = fits; splits = no_splits road (box_tree_of leaf) root l.one; within = l.within }

pub leaf_narrow : (road : Road) (leaf : Tree) → IsLeafOf road leaf → IsNarrow (box_tree_of leaf) × (1 ≡ node_count (box_tree_of leaf))
leaf_narrow road leaf l = (narrow (row_count road) (box_tree_of leaf) l.within, sym (one_node (box_tree_of leaf) l.one))

-- ---- two trees under a split

pub joined_fits : (road : Road) (root : BoxRange) (split : Split) (first second : RootedTree) (tree : Tree)
    → box_tree_of tree ≡ fork split (box_tree_of first.tree) (box_tree_of second.tree) → IsBoxOf road root → FitsRoad road first → FitsRoad road second
    → AreParts road root split (Some (first.root, second.root)) → FitsRoad road (record { tree = tree; root = root })
joined_fits road root split first second tree e fits f s parts =
    let first_root = ap (λ (p : BoxRange × BoxRange). p.0) parts.1 in
    let second_root = ap (λ (p : BoxRange × BoxRange). p.1) parts.1 in
    record {
      root = fits;
      splits =
          subst (λ (t : BoxTree). SplitsFit road t root) (sym e)
          (parts.0, subst (SplitsFit road (box_tree_of first.tree)) first_root f.splits, subst (SplitsFit road (box_tree_of second.tree)) second_root s.splits);
      within = subst (IsWithinWidths (row_count road)) (sym e) (f.within, s.within);
    }

pub joined_narrow : (split : Split) (first second tree : Tree) → box_tree_of tree ≡ fork split (box_tree_of first) (box_tree_of second)
    → IsNarrow (box_tree_of first) → IsNarrow (box_tree_of second) → IsNarrow (box_tree_of tree)
joined_narrow split first second tree e f s = subst IsNarrow (sym e) (f, s)

-- ---- a leaf that is split

new_splits : (road : Road) (split : Split) (first second : Tree) (box : BoxRange) → IsSplitOf road box split → IsLeafOf road first → IsLeafOf road second
    → SplitsFit road (fork split (box_tree_of first) (box_tree_of second)) box
new_splits road split first second box at f s =
    (at, no_splits road (box_tree_of first) (first_part box split) f.one, no_splits road (box_tree_of second) (second_part box split) s.one)

pub split_fits : (road : Road) (old : RootedTree) (tree : Tree) (place : ℕ) (split : Split) (first second : Tree)
    → box_tree_of tree ≡ with_tree_at (box_tree_of old.tree) place (fork split (box_tree_of first) (box_tree_of second))
    → FitsRoad road old → is_leaf_at (box_tree_of old.tree) place ≡ true → IsLeafOf road first → IsLeafOf road second
    → IsSplitOf road (box_at (box_tree_of old.tree) old.root place) split → FitsRoad road (record { tree = tree; root = old.root })
split_fits road old tree place split first second e fits leaf f s at =
    let part = fork split (box_tree_of first) (box_tree_of second) in
    let there = new_splits road split first second (box_at (box_tree_of old.tree) old.root place) at f s in
    record {
      root = fits.root;
      splits = subst (λ (t : BoxTree). SplitsFit road t old.root) (sym e) (fit-with road (box_tree_of old.tree) place part old.root leaf fits.splits there);
      within = subst (IsWithinWidths (row_count road)) (sym e) (within-with (row_count road) (box_tree_of old.tree) place part fits.within (f.within, s.within));
    }

pub split_count : (road : Road) (old tree : Tree) (place : ℕ) (split : Split) (first second : Tree)
    → box_tree_of tree ≡ with_tree_at (box_tree_of old) place (fork split (box_tree_of first) (box_tree_of second))
    → is_leaf_at (box_tree_of old) place ≡ true → IsLeafOf road first → IsLeafOf road second
    → node_count (box_tree_of tree) ≡ node_count (box_tree_of old) + 2
split_count road old tree place split first second e leaf f s =
    let part = fork split (box_tree_of first) (box_tree_of second) in
    let n = node_count-with (box_tree_of old) place part leaf in
    let one = one_node (box_tree_of first) f.one in
    let other = one_node (box_tree_of second) s.one in
    let same = ap node_count e in
    omega (arith, n, one, other, same)

-- what is known of the tree that was put together, said of what was handed in
pub made_of : (place : ℕ) (split : Split) (made old now first second one two : Tree)
    → box_tree_of made ≡ with_tree_at (box_tree_of old) place (fork split (box_tree_of first) (box_tree_of second))
    → old ≡ now → first ≡ one → second ≡ two
    → box_tree_of made ≡ with_tree_at (box_tree_of now) place (fork split (box_tree_of one) (box_tree_of two))
made_of place split made old now first second one two e o f s =
    e
    ∙ ap (λ (t : Tree). with_tree_at (box_tree_of t) place (fork split (box_tree_of first) (box_tree_of second))) o
    ∙ ap (λ (t : Tree). with_tree_at (box_tree_of now) place (fork split (box_tree_of t) (box_tree_of second))) f
    ∙ ap (λ (t : Tree). with_tree_at (box_tree_of now) place (fork split (box_tree_of one) (box_tree_of t))) s
