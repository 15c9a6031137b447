-- Widths of volumes over a denominator of 128 bits.
use Rattle.std.proofs.Common.{◌^◌, arith}
use Rattle.std.specs.Prelude.{ℤ, pos, ◌*ℤ◌, ◌≤ℤ◌}
use Rattle.std.proofs.lemmas.Int.{ints}
use Rattle.algebra.proofs.Order.{int_mul_le_mul, int_mul_le_right}
use Rattle.road_types.specs.declared.road.Slab.{Slab}
use Rattle.road_types.specs.WellFormed.{IsSolidSlab}

-- a slab's thickness over such a denominator
pub thickness_width : (slab : Slab) (den : ℤ) → IsSolidSlab slab → pos 1 ≤ℤ den → den ≤ℤ pos (2 ^ 128) → (slab.thick *ℤ den) ≤ℤ pos (2 ^ 152)
thickness_width slab den s p h =
    int_mul_le_mul slab.thick (pos (2 ^ 24)) den (pos (2 ^ 128)) (omega (arith, ints, s.thick.at_least)) (omega (arith, ints, s.thick.at_most)) (omega (arith, ints, p)) h

pub thickness_from : (slab : Slab) (den : ℤ) → IsSolidSlab slab → pos 1 ≤ℤ den → pos 0 ≤ℤ (slab.thick *ℤ den)
thickness_from slab den s p =
    let product = int_mul_le_right (pos 0) slab.thick den (omega (arith, ints, p)) (omega (arith, ints, s.thick.at_least)) in
    omega (arith, ints, product)

-- a layer's volume
pub volume_from : (area thickness : ℤ) → pos 0 ≤ℤ area → pos 0 ≤ℤ thickness → pos 0 ≤ℤ (area *ℤ thickness)
volume_from area thickness a t =
    let product = int_mul_le_right (pos 0) area thickness t a in
    omega (arith, ints, product)

pub volume_width : (area thickness : ℤ) → pos 0 ≤ℤ area → area ≤ℤ pos (2 ^ 24) → pos 0 ≤ℤ thickness → thickness ≤ℤ pos (2 ^ 152) → (area *ℤ thickness) ≤ℤ pos (2 ^ 176)
volume_width area thickness a b t u = int_mul_le_mul area (pos (2 ^ 24)) thickness (pos (2 ^ 152)) a b t u
