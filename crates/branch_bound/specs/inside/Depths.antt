-- How deep a tree can be: how often a box can be split on one path.
use Rattle.std.specs.Prelude.{ℕ, suc, ◌+◌, ◌-◌, max, List, [], ◌∷◌, ℤ}
use Rattle.road_types.specs.Road.{section}
use Rattle.road_types.specs.declared.road.Road.{Road}
use Rattle.milp_builder.specs.declared.boxes.BoxRange.{BoxRange}
use Rattle.cert_tree.specs.Trees.{BoxTree, low, dead, fork}
use Rattle.branch_bound.specs.inside.Choices.{slab_choices_in}

-- the number of splits above the deepest leaf
abbrev pub depth : BoxTree → ℕ
depth (low scale mults cause) = 0
depth (dead mults) = 0
depth (fork split first second) = 1 + max (depth first) (depth second)

-- the sum of a function's values at the entries of a list and their numbers, where the first has the given number
abbrev pub sum_from : {A : Type 0} → (ℕ → A → ℕ) → ℕ → List A → ℕ
sum_from f n [] = 0
sum_from f n (x ∷ xs) = f n x + sum_from f (suc n) xs

-- how often a range of openings, or of a section's slabs, can be split
abbrev pub opening_splits : ℕ → ℕ × ℕ → ℕ
opening_splits k range = range.1 - range.0

abbrev pub height_splits : Road → ℕ → ℤ × ℤ → ℕ
height_splits road i range = slab_choices_in (section road i) range - 1

abbrev pub box_splits : Road → BoxRange → ℕ
box_splits road box = sum_from opening_splits 1 box.opens + sum_from (height_splits road) 1 box.heights
