-- The least bound while a tree is gone through: a value and the scale that it stands over.
use Rattle.std.specs.Prelude.{◌≡◌, false, Option, Some, None, ℤ, int_le, ◌*ℤ◌, if◌then◌else◌}
use Rattle.numbers.specs.Fractions.{Fraction, IsReduced, HasValue}
use Rattle.road_types.specs.declared.road.Road.{Road}
use Rattle.milp_builder.specs.declared.boxes.BoxRange.{BoxRange}
use Rattle.best_first.specs.Keys.{IsKey}
use Rattle.cert_tree.specs.Trees.{BoxTree}
use Rattle.cert_tree.specs.Soundness.{has_low}
use Rattle.cert_tree.specs.LeastBounds.{IsAtMostLeaves, IsOfSomeLeaf}

-- value over scale, as it stands
abbrev pub over : ℤ × ℤ → Fraction
over pair = record { num = pair.0; den = pair.1 }

-- the pair is the least of the low leaves' values over their scales; there is none where every leaf is dead
abbrev pub IsLeastPair : Road → BoxTree → BoxRange → Option (ℤ × ℤ) → Type 0
IsLeastPair road tree box None = has_low tree ≡ false
IsLeastPair road tree box (Some pair) = IsKey pair × IsAtMostLeaves road (over pair) tree box × IsOfSomeLeaf road (over pair) tree box

-- both pairs, where they are there, are keys
abbrev pub IsKeyOrNone : Option (ℤ × ℤ) → Type 0
IsKeyOrNone None = Unit {0}
IsKeyOrNone (Some pair) = IsKey pair

-- the lesser of two pairs, the first of equal ones
abbrev pub lesser : Option (ℤ × ℤ) → Option (ℤ × ℤ) → Option (ℤ × ℤ)
lesser None other = other
lesser (Some pair) None = Some pair
lesser (Some pair) (Some other) =
    if int_le (pair.0 *ℤ other.1) (other.0 *ℤ pair.1) then Some pair else Some other

-- there is a fraction in lowest terms, and it has the value of the pair
abbrev pub IsFractionOf : ℤ × ℤ → Option Fraction → Type 0
IsFractionOf pair None = ⊥
IsFractionOf pair (Some fraction) = IsReduced fraction × HasValue fraction pair.0 pair.1
