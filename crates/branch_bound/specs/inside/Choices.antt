-- How many leaves a box can still be split into: its openings of each block, times its slabs of each section.
use Rattle.std.specs.Prelude.{ℕ, suc, ◌+◌, ◌-◌, ◌*◌, List, [], ◌∷◌, length, ℤ}
use Rattle.road_types.specs.Lines.{slopes_between}
use Rattle.road_types.specs.Road.{section}
use Rattle.road_types.specs.declared.road.Road.{Road}
use Rattle.road_types.specs.declared.road.Section.{Section}
use Rattle.milp_builder.specs.declared.boxes.BoxRange.{BoxRange}

-- the number of openings in a range
abbrev pub opening_choices : ℕ × ℕ → ℕ
opening_choices range = (range.1 + 1) - range.0

-- the number of slabs in a range of offsets
abbrev pub slab_choices_in : Section → ℤ × ℤ → ℕ
slab_choices_in s range = length (slopes_between s range)

-- the product of a function's values at the entries of a list and their numbers, where the first has the given number
abbrev pub product_from : {A : Type 0} → (ℕ → A → ℕ) → ℕ → List A → ℕ
product_from f n [] = 1
product_from f n (x ∷ xs) = f n x * product_from f (suc n) xs

abbrev pub opens_product : List (ℕ × ℕ) → ℕ
opens_product opens = product_from (λ k range. opening_choices range) 1 opens

abbrev pub heights_product : Road → List (ℤ × ℤ) → ℕ
heights_product road heights = product_from (λ i range. slab_choices_in (section road i) range) 1 heights

abbrev pub box_choices : Road → BoxRange → ℕ
box_choices road box = opens_product box.opens * heights_product road box.heights
