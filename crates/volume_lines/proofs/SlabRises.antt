-- How the volume of slabs rises with the depth, between slopes that bound the areas of the slabs in between.
-- Depths are over a denominator; slabs and the range begin at depths in whole mm.
use Rattle.std.proofs.Common.{◌≡◌, List, [], ◌∷◌, arith, ap, subst, refl, ⊎_elim}
use Rattle.std.specs.Prelude.{ℤ, pos, ◌+ℤ◌, ◌-ℤ◌, ◌*ℤ◌, ◌≤ℤ◌, ◌<ℤ◌}
use Rattle.std.specs.Int.{int_min, int_max}
use Rattle.std.proofs.lemmas.Int.{ints, clamps}
use Rattle.algebra.proofs.Products.{mults, int_add_mul, int_mul_sub, int_zero_mul}
use Rattle.algebra.proofs.Order.{int_mul_le_right, int_mul_nonneg, int_lt_or_le, int_lt_of_mul_right, int_min_of_le, int_max_of_le}
use Rattle.road_types.specs.declared.road.Slab.{Slab}
use Rattle.road_types.specs.Volumes.{volume_to, thickness_of}

-- every slab is at least 1 mm thick
abbrev pub AreThick : List Slab → Type 0
AreThick [] = Unit {0}
AreThick (slab ∷ slabs) = (pos 1 ≤ℤ slab.thick) × AreThick slabs

-- lo <= area <= hi
pub record IsSlopeWithin (lo hi area : ℤ) : Type 0 where
  pub at_least : lo ≤ℤ area
  pub at_most : area ≤ℤ hi

-- every slab that has depths strictly between low and high has an area between lo and hi; the first slab begins at `top`
abbrev pub AreSlopesWithin : List Slab → ℤ → ℤ → ℤ → ℤ → ℤ → Type 0
AreSlopesWithin [] top low high lo hi = Unit {0}
AreSlopesWithin (slab ∷ slabs) top low high lo hi =
    (top <ℤ high → low <ℤ (top +ℤ slab.thick) → IsSlopeWithin lo hi slab.area)
    × AreSlopesWithin slabs (top +ℤ slab.thick) low high lo hi

-- what a volume may rise over so much depth
pub record IsRise (lo hi depth volume : ℤ) : Type 0 where
  pub at_least : (lo *ℤ depth) ≤ℤ volume
  pub at_most : volume ≤ℤ (hi *ℤ depth)

rise_of_area : (lo hi area depth : ℤ) → pos 0 ≤ℤ depth → IsSlopeWithin lo hi area → IsRise lo hi depth (area *ℤ depth)
rise_of_area lo hi area depth p s = record { at_least = int_mul_le_right lo area depth p s.at_least; at_most = int_mul_le_right area hi depth p s.at_most }

pub rise_of_none : (lo hi depth volume : ℤ) → depth ≡ pos 0 → volume ≡ pos 0 → IsRise lo hi depth volume
rise_of_none lo hi depth volume d v = record { at_least = omega (arith, ints, ap (λ x. lo *ℤ x) d); at_most = omega (arith, ints, ap (λ x. hi *ℤ x) d) }

pub rise_of_sum : (lo hi d e v w : ℤ) → IsRise lo hi d v → IsRise lo hi e w → IsRise lo hi (d +ℤ e) (v +ℤ w)
rise_of_sum lo hi d e v w r s = record {
  at_least = simp mults (omega (arith, ints, r.at_least, s.at_least));
  at_most = simp mults (omega (arith, ints, r.at_most, s.at_most));
}

pub rise_as : (lo hi d e v w : ℤ) → d ≡ e → v ≡ w → IsRise lo hi d v → IsRise lo hi e w
rise_as lo hi d e v w p q r = subst (λ x. IsRise lo hi e x) q (subst (λ x. IsRise lo hi x v) p r)

-- the slabs below a depth of 0 hold nothing
pub volume_of_none : (slabs : List Slab) (den : ℤ) → pos 0 ≤ℤ den → AreThick slabs → volume_to slabs (pos 0) den ≡ pos 0
unfolding volume_to
volume_of_none [] den d t = refl
volume_of_none (slab ∷ slabs) den d t =
    let h = int_mul_nonneg slab.thick den (omega (arith, ints, t.0)) d in
    let first = ap (λ x. slab.area *ℤ x) (int_min_of_le (pos 0) (slab.thick *ℤ den) h) in
    let rest = ap (λ x. volume_to slabs x den) (int_max_of_le (pos 0 -ℤ slab.thick *ℤ den) (pos 0) (omega (arith, ints))) in
    omega (arith, ints, first, rest, volume_of_none slabs den d t.1)

-- the first slab's part of a rise: it counts where the depths overlap the slab
first_rise : (lo hi area h a b : ℤ) → pos 0 ≤ℤ a → a ≤ℤ b → pos 0 ≤ℤ h
    → (a <ℤ h → pos 0 <ℤ b → IsSlopeWithin lo hi area)
    → IsRise lo hi (int_min b h -ℤ int_min a h) (area *ℤ int_min b h -ℤ area *ℤ int_min a h)
first_rise lo hi area h a b p q r s =
    ⊎_elim
    (λ (l : a <ℤ h).
    ⊎_elim
    (λ (m : pos 0 <ℤ b).
    rise_as lo hi (int_min b h -ℤ int_min a h) (int_min b h -ℤ int_min a h) (area *ℤ (int_min b h -ℤ int_min a h)) (area *ℤ int_min b h -ℤ area *ℤ int_min a h) refl (int_mul_sub area (int_min b h) (int_min a h))
    (rise_of_area lo hi area (int_min b h -ℤ int_min a h) (omega (arith, ints, clamps)) (s l m)))
    (λ (m : b ≤ℤ pos 0).
    let same : int_min b h ≡ int_min a h = omega (arith, ints, clamps) in
    rise_of_none lo hi (int_min b h -ℤ int_min a h) (area *ℤ int_min b h -ℤ area *ℤ int_min a h) (omega (arith, ints, same)) (omega (arith, ints, ap (λ x. area *ℤ x) same)))
    (int_lt_or_le (pos 0) b))
    (λ (l : h ≤ℤ a).
    let same : int_min b h ≡ int_min a h = omega (arith, ints, clamps) in
    rise_of_none lo hi (int_min b h -ℤ int_min a h) (area *ℤ int_min b h -ℤ area *ℤ int_min a h) (omega (arith, ints, same)) (omega (arith, ints, ap (λ x. area *ℤ x) same)))
    (int_lt_or_le a h)

-- between the depths a and b, which lie within the slabs and between low and high, the volume rises by the slopes
pub volume_rises : (slabs : List Slab) (top low high lo hi den a b : ℤ) → pos 0 <ℤ den → AreThick slabs → AreSlopesWithin slabs top low high lo hi
    → pos 0 ≤ℤ a → a ≤ℤ b → b ≤ℤ (thickness_of slabs *ℤ den)
    → (low *ℤ den) ≤ℤ (a +ℤ top *ℤ den) → (b +ℤ top *ℤ den) ≤ℤ (high *ℤ den)
    → IsRise lo hi (b -ℤ a) (volume_to slabs b den -ℤ volume_to slabs a den)
unfolding volume_to thickness_of
volume_rises [] top low high lo hi den a b d t s p q r x y =
    rise_of_none lo hi (b -ℤ a) (pos 0 -ℤ pos 0) (omega (arith, ints, int_zero_mul den)) refl
volume_rises (slab ∷ slabs) top low high lo hi den a b d t s p q r x y =
    let h = slab.thick *ℤ den in
    let nonneg : pos 0 ≤ℤ h = int_mul_nonneg slab.thick den (omega (arith, ints, t.0)) (omega (arith, ints)) in
    let next = int_add_mul top slab.thick den in
    let all = int_add_mul slab.thick (thickness_of slabs) den in
    let first = first_rise lo hi slab.area h a b p q nonneg
    (λ l m.
    s.0
    (int_lt_of_mul_right top high den (omega (arith, ints)) (omega (arith, ints)))
    (int_lt_of_mul_right low (top +ℤ slab.thick) den (omega (arith, ints)) (omega (arith, ints, next)))) in
    let a2 = int_max (a -ℤ h) (pos 0) in
    let b2 = int_max (b -ℤ h) (pos 0) in
    let rest : IsRise lo hi (b2 -ℤ a2) (volume_to slabs b2 den -ℤ volume_to slabs a2 den) =
    ⊎_elim
    (λ (l : h <ℤ b).
    volume_rises slabs (top +ℤ slab.thick) low high lo hi den a2 b2 d t.1 s.1
    (omega (arith, ints, clamps)) (omega (arith, ints, clamps)) (omega (arith, ints, clamps, all))
    (omega (arith, ints, clamps, next)) (omega (arith, ints, clamps, next)))
    (λ (l : b ≤ℤ h).
    let none_a : a2 ≡ pos 0 = omega (arith, ints, clamps) in
    let none_b : b2 ≡ pos 0 = omega (arith, ints, clamps) in
    rise_of_none lo hi (b2 -ℤ a2) (volume_to slabs b2 den -ℤ volume_to slabs a2 den) (omega (arith, ints))
    (omega (arith, ints, ap (λ v. volume_to slabs v den) none_a, ap (λ v. volume_to slabs v den) none_b)))
    (int_lt_or_le h b) in
    rise_as lo hi
    ((int_min b h -ℤ int_min a h) +ℤ (b2 -ℤ a2)) (b -ℤ a)
    ((slab.area *ℤ int_min b h -ℤ slab.area *ℤ int_min a h) +ℤ (volume_to slabs b2 den -ℤ volume_to slabs a2 den))
    ((slab.area *ℤ int_min b h +ℤ volume_to slabs b2 den) -ℤ (slab.area *ℤ int_min a h +ℤ volume_to slabs a2 den))
    (omega (arith, ints, clamps))
    (omega (arith, ints))
    (rise_of_sum lo hi (int_min b h -ℤ int_min a h) (b2 -ℤ a2) (slab.area *ℤ int_min b h -ℤ slab.area *ℤ int_min a h) (volume_to slabs b2 den -ℤ volume_to slabs a2 den) first rest)
