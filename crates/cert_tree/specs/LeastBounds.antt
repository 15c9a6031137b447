-- The least bound of a tree: the least value over scale of its low leaves, each on its own box. It is the greatest bound that the tree
-- proves where its signs are right and its dead leaves' values are above 0.
use Rattle.std.specs.Prelude.{◌≡◌, ◌⊎◌, false, Option, Some, None, ◌*ℤ◌, ◌≤ℤ◌}
use Rattle.numbers.specs.Fractions.{Fraction, IsLowest}
use Rattle.road_types.specs.declared.road.Road.{Road}
use Rattle.milp_builder.specs.Parts.{first_part, second_part}
use Rattle.milp_builder.specs.declared.boxes.BoxRange.{BoxRange}
use Rattle.cert_tree.specs.Trees.{BoxTree, low, dead, fork}
use Rattle.cert_tree.specs.Soundness.{box_value, has_low}

-- the bound is at most the value over the scale of each low leaf, on its own box
abbrev pub IsAtMostLeaves : Road → Fraction → BoxTree → BoxRange → Type 0
IsAtMostLeaves road bound (low scale mults cause) box = (bound.num *ℤ scale) ≤ℤ (box_value road box scale mults *ℤ bound.den)
IsAtMostLeaves road bound (dead mults) box = Unit {0}
IsAtMostLeaves road bound (fork split first second) box =
    IsAtMostLeaves road bound first (first_part box split) × IsAtMostLeaves road bound second (second_part box split)

-- it is the value over the scale of some low leaf
abbrev pub IsOfSomeLeaf : Road → Fraction → BoxTree → BoxRange → Type 0
IsOfSomeLeaf road bound (low scale mults cause) box = bound.num *ℤ scale ≡ box_value road box scale mults *ℤ bound.den
IsOfSomeLeaf road bound (dead mults) box = ⊥
IsOfSomeLeaf road bound (fork split first second) box =
    IsOfSomeLeaf road bound first (first_part box split) ⊎ IsOfSomeLeaf road bound second (second_part box split)

-- the bound, in lowest terms, is the least of the low leaves'; there is none exactly where every leaf is dead
abbrev pub IsLeastOfLeaves : Road → BoxTree → BoxRange → Option Fraction → Type 0
IsLeastOfLeaves road tree box None = has_low tree ≡ false
IsLeastOfLeaves road tree box (Some bound) = IsLowest bound × IsAtMostLeaves road bound tree box × IsOfSomeLeaf road bound tree box
