-- Definitions by recursion on a list, at what is left of it from a position on.
use Rattle.std.proofs.Common.{◌≡◌, ℕ, suc, ◌+◌, ◌≤◌, ◌<◌, List, length, get_or, drop, arith, true, false, cond}
use Rattle.std.specs.Prelude.{ℤ, pos, ◌+ℤ◌, ◌-ℤ◌, ◌*ℤ◌, int_lt, int_le}
use Rattle.std.specs.Int.{int_min, int_max}
use Rattle.std.proofs.lemmas.Int.{ints}
use Rattle.std.proofs.lemmas.List.{at_drop_more, at_drop_all}
use Rattle.road_types.specs.declared.road.Slab.{Slab}
use Rattle.road_types.specs.Heights.{knots_before}
use Rattle.road_types.specs.Volumes.{volume_to, thickness_of}
use Rattle.road_types.specs.WellFormed.{IsSlabTable, IsSolidSlab}

-- the slab at a position of a table is solid
pub solid_at : (slabs : List Slab) → IsSlabTable slabs → (i : ℕ) (other : Slab) → i < length slabs → IsSolidSlab (get_or slabs i other)
solid_at slabs h i other l = h.solid (suc i) other (record { from_one = omega arith; at_most = omega arith })

pub volume_more : (slabs : List Slab) (i : ℕ) (other : Slab) (left den : ℤ) → i < length slabs
    → volume_to (drop i slabs) left den
    ≡ (get_or slabs i other).area *ℤ int_min left ((get_or slabs i other).thick *ℤ den)
    +ℤ volume_to (drop (i + 1) slabs) (int_max (left -ℤ (get_or slabs i other).thick *ℤ den) (pos 0)) den
unfolding volume_to
volume_more slabs i other left den l = at_drop_more (λ (xs : List Slab). volume_to xs left den) slabs i other l

pub volume_none : (slabs : List Slab) (i : ℕ) (left den : ℤ) → length slabs ≤ i → volume_to (drop i slabs) left den ≡ pos 0
unfolding volume_to
volume_none slabs i left den l = at_drop_all (λ (xs : List Slab). volume_to xs left den) slabs i l

pub thickness_more : (slabs : List Slab) (i : ℕ) (other : Slab) → i < length slabs → thickness_of (drop i slabs) ≡ (get_or slabs i other).thick +ℤ thickness_of (drop (i + 1) slabs)
unfolding thickness_of
thickness_more slabs i other l = at_drop_more thickness_of slabs i other l

pub thickness_none : (slabs : List Slab) (i : ℕ) → length slabs ≤ i → thickness_of (drop i slabs) ≡ pos 0
unfolding thickness_of
thickness_none slabs i l = at_drop_all thickness_of slabs i l

pub knots_more : (station : ℤ) (knots : List ℤ) (i : ℕ) (other : ℤ) → i < length knots
    → knots_before (drop i knots) station ≡ cond (int_lt (get_or knots i other) station) (suc (knots_before (drop (i + 1) knots) station)) 0
unfolding knots_before
knots_more station knots i other l = at_drop_more (λ (xs : List ℤ). knots_before xs station) knots i other l

pub knots_none : (station : ℤ) (knots : List ℤ) (i : ℕ) → length knots ≤ i → knots_before (drop i knots) station ≡ 0
unfolding knots_before
knots_none station knots i l = at_drop_all (λ (xs : List ℤ). knots_before xs station) knots i l

-- a knot at the station or after it isn't before it, and one before the station is

pub knots_stop : (station knot : ℤ) (n : ℕ) → int_le station knot ≡ true → cond (int_lt knot station) (suc n) 0 ≡ 0
knots_stop station knot n h = grind (arith, ints)

pub knots_go : (station knot : ℤ) (n : ℕ) → int_le station knot ≡ false → cond (int_lt knot station) (suc n) 0 ≡ suc n
knots_go station knot n h = grind (arith, ints)
