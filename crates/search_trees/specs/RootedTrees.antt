-- A tree with the box of its root. It fits a road where its root box does, each split can be made of the box on its path, every
-- multiplier stands on a row of the road, and scales and multipliers are within their widths.
use Rattle.std.specs.Prelude.{ℕ, ◌≤◌, List, All, Bool, true, false, IsTrue, ℤ, unsigned_abs}
use Rattle.algebra.specs.Scale.{IsScale, greatest_scale}
use Rattle.road_types.specs.declared.road.Road.{Road}
use Rattle.road_types.specs.RoadPrograms.{row_count}
use Rattle.milp_builder.specs.Boxes.{IsBoxOf}
use Rattle.milp_builder.specs.declared.boxes.BoxRange.{BoxRange}
use Rattle.cert_tree.specs.Trees.{BoxTree, low, dead, fork, box_tree_of, IsWithinWidths}
use Rattle.cert_tree.specs.Soundness.{SplitsFit}
use Rattle.cert_tree.specs.declared.tree.Tree.{Tree}

-- a tree, and the box of its root
pub record RootedTree : Type 0 where
  pub tree : Tree
  pub root : BoxRange

-- every multiplier has a magnitude of at most 2^40
abbrev pub AreNarrowPairs : List (ℕ × ℤ) → Type 0
AreNarrowPairs mults = All (λ mult. unsigned_abs mult.1 ≤ greatest_scale) mults

-- every scale is from 1 to 2^40, and every multiplier has a magnitude of at most 2^40
abbrev pub IsNarrow : BoxTree → Type 0
IsNarrow (low scale mults cause) = IsScale scale × AreNarrowPairs mults
IsNarrow (dead mults) = AreNarrowPairs mults
IsNarrow (fork split first second) = IsNarrow first × IsNarrow second

-- the tree is one leaf
abbrev pub is_leaf : BoxTree → Bool
is_leaf (low scale mults cause) = true
is_leaf (dead mults) = true
is_leaf (fork split first second) = false

-- a leaf within the widths, with multipliers on rows of the road
pub record IsLeafOf (road : Road) (leaf : Tree) : Type 0 where
  pub one : IsTrue (is_leaf (box_tree_of leaf))
  pub within : IsWithinWidths (row_count road) (box_tree_of leaf)

-- the tree fits the road
pub record FitsRoad (road : Road) (tree : RootedTree) : Type 0 where
  pub root : IsBoxOf road tree.root
  pub splits : SplitsFit road (box_tree_of tree.tree) tree.root
  pub within : IsWithinWidths (row_count road) (box_tree_of tree.tree)
