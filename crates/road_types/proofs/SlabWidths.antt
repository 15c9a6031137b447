-- How thick a solid slab is, over a denominator.
use Rattle.std.proofs.Common.{◌^◌, arith}
use Rattle.std.specs.Prelude.{ℤ, pos, ◌≤ℤ◌, ◌*ℤ◌}
use Rattle.std.proofs.lemmas.Int.{ints}
use Rattle.algebra.specs.Scale.{IsScale}
use Rattle.algebra.proofs.Order.{int_mul_nonneg, int_mul_le_mul}
use Rattle.road_types.specs.WellFormed.{IsSolidSlab}
use Rattle.road_types.specs.declared.road.Slab.{Slab}

pub slab_from : (slab : Slab) (den : ℤ) → IsSolidSlab slab → IsScale den → pos 0 ≤ℤ (slab.thick *ℤ den)
slab_from slab den s d = int_mul_nonneg slab.thick den (omega (arith, ints, s.thick.at_least)) (omega (arith, ints, d.from_one))

pub slab_to : (slab : Slab) (den : ℤ) → IsSolidSlab slab → IsScale den → (slab.thick *ℤ den) ≤ℤ pos (2 ^ 64)
slab_to slab den s d =
    int_mul_le_mul slab.thick (pos (2 ^ 24)) den (pos (2 ^ 40)) (omega (arith, ints, s.thick.at_least)) (omega (arith, ints, s.thick.at_most)) (omega (arith, ints, d.from_one)) d.at_most
