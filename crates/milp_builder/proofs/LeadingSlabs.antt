-- Thicknesses of leading slabs.
use Rattle.std.proofs.Common.{◌≡◌, ℕ, zero, suc, ◌+◌, ◌≤◌, ◌<◌, List, [], ◌∷◌, length, get_or, arith, ap, refl, add-one}
use Rattle.std.specs.Prelude.{pos, ◌+ℤ◌, ◌≤ℤ◌}
use Rattle.std.proofs.lemmas.Int.{ints}
use Rattle.std.proofs.lemmas.List.{take_all}
use Rattle.road_types.specs.declared.road.Slab.{Slab}
use Rattle.road_types.specs.Numbered.{numbered, IsNumber}
use Rattle.road_types.specs.WellFormed.{IsSlabTable, IsSolidSlab}
use Rattle.road_types.specs.Volumes.{thickness_of}
use Rattle.road_types.specs.Breakpoints.{leading_thickness}

-- every slab is solid
abbrev pub AreSolid : List Slab → Type 0
AreSolid slabs = (k : ℕ) (other : Slab) → IsNumber k (length slabs) → IsSolidSlab (numbered other slabs k)

pub first_solid : (s : Slab) (rest : List Slab) → AreSolid (s ∷ rest) → IsSolidSlab s
first_solid s rest h = h 1 s (record { from_one = omega arith; at_most = omega arith })

pub rest_solid : (s : Slab) (rest : List Slab) → AreSolid (s ∷ rest) → AreSolid rest
rest_solid s rest h zero other n = absurd (omega (arith, n.from_one))
rest_solid s rest h (suc k) other n = h (suc (suc k)) other (record { from_one = omega arith; at_most = omega (arith, n.at_most) })

pub solid_at : (slabs : List Slab) → AreSolid slabs → (i : ℕ) (other : Slab) → i < length slabs → IsSolidSlab (get_or slabs i other)
solid_at slabs h i other l = h (suc i) other (record { from_one = omega arith; at_most = omega arith })

pub thickness_nonneg : (slabs : List Slab) → AreSolid slabs → pos 0 ≤ℤ thickness_of slabs
unfolding thickness_of
thickness_nonneg [] h = omega (arith, ints)
thickness_nonneg (s ∷ rest) h =
    let first = first_solid s rest h in
    let others = thickness_nonneg rest (rest_solid s rest h) in
    omega (arith, ints, first.thick.at_least)

pub thickness_pos : (slabs : List Slab) → IsSlabTable slabs → pos 1 ≤ℤ thickness_of slabs
unfolding thickness_of
thickness_pos [] h = absurd (omega (arith, h.some))
thickness_pos (s ∷ rest) h =
    let first = first_solid s rest h.solid in
    let others = thickness_nonneg rest (rest_solid s rest h.solid) in
    omega (arith, ints, first.thick.at_least)

pub leading_none : (slabs : List Slab) → leading_thickness slabs 0 ≡ pos 0
unfolding thickness_of
leading_none slabs = refl

pub leading_all : (slabs : List Slab) (k : ℕ) → length slabs ≤ k → leading_thickness slabs k ≡ thickness_of slabs
leading_all slabs k h = ap thickness_of (take_all k slabs h)

-- one more slab adds its thickness
leading_suc : (slabs : List Slab) (i : ℕ) (other : Slab) → i < length slabs
    → leading_thickness slabs (suc i) ≡ leading_thickness slabs i +ℤ (get_or slabs i other).thick
unfolding thickness_of
leading_suc [] i other l = absurd (omega arith)
leading_suc (s ∷ rest) zero other l = omega (arith, ints)
leading_suc (s ∷ rest) (suc i) other l = let more = leading_suc rest i other (omega arith) in omega (arith, ints)

pub leading_more : (slabs : List Slab) (i : ℕ) (other : Slab) → i < length slabs
    → leading_thickness slabs (i + 1) ≡ leading_thickness slabs i +ℤ (get_or slabs i other).thick
leading_more slabs i other l = rw add-one (leading_suc slabs i other l)
