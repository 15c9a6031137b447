-- How many leaves a tree of boxes can have: each opening of each block, and each slab of each section, can be apart from the others.
use Rattle.std.specs.Prelude.{ℕ, ◌+◌, ◌*◌, ◌^◌, ◌≤◌, List, [], ◌∷◌, length}
use Rattle.road_types.specs.declared.road.Road.{Road}
use Rattle.road_types.specs.declared.road.Section.{Section}
use Rattle.milp_builder.specs.Boxes.{root_box}
use Rattle.cert_tree.specs.Trees.{BoxTree, low, dead, fork}
use Rattle.cert_tree.specs.Soundness.{SplitsFit}

-- the number of leaves
abbrev pub leaf_count : BoxTree → ℕ
leaf_count (low scale mults cause) = 1
leaf_count (dead mults) = 1
leaf_count (fork split first second) = leaf_count first + leaf_count second

-- the slabs of a section, below the ground and above it
abbrev pub slab_count : Section → ℕ
slab_count section = length section.cut + length section.fill

-- the product of the sections' numbers of slabs
abbrev pub slab_choices : List Section → ℕ
slab_choices [] = 1
slab_choices (section ∷ sections) = slab_count section * slab_choices sections

-- the stages to the power of the blocks, since a block has as many openings as there are stages, times the choices of slabs
abbrev pub most_leaves : Road → ℕ
most_leaves road = road.stages ^ length road.blocks * slab_choices road.sections

-- no tree whose splits can be made has more leaves
pub record HasFewLeaves (road : Road) : Type 0 where
  pub each : (tree : BoxTree) → SplitsFit road tree (root_box road) → leaf_count tree ≤ most_leaves road
