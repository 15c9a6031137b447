-- How the net volume of a section rises with the offset, and that volumes scale with the denominator.
use Rattle.std.proofs.Common.{◌≡◌, List, [], ◌∷◌, arith, ap, sym, ◌∙◌, refl, ⊎_elim}
use Rattle.std.specs.Prelude.{ℤ, pos, neg_ℤ, ◌+ℤ◌, ◌-ℤ◌, ◌*ℤ◌, ◌≤ℤ◌, ◌<ℤ◌}
use Rattle.std.specs.Int.{int_min, int_max}
use Rattle.std.proofs.lemmas.Int.{ints, clamps}
use Rattle.algebra.proofs.Products.{mults, int_mul_one, int_sub_mul, int_neg_mul, int_zero_mul}
use Rattle.algebra.proofs.Order.{int_lt_or_le, int_min_mul, int_max_mul}
use Rattle.road_types.specs.declared.road.Slab.{Slab}
use Rattle.road_types.specs.Volumes.{volume_to, thickness_of, net_volume}
use Rattle.volume_lines.proofs.SlabRises.{AreThick, AreSlopesWithin, IsRise, rise_as, rise_of_none, rise_of_sum, volume_rises}

-- the part of a rise that fill slabs have: above the ground
fill_rises : (fill : List Slab) (p q lo hi den a b : ℤ) → pos 0 <ℤ den → AreThick fill → AreSlopesWithin fill (pos 0) p q lo hi
    → (p *ℤ den) ≤ℤ a → a ≤ℤ b → b ≤ℤ (q *ℤ den) → b ≤ℤ (thickness_of fill *ℤ den)
    → IsRise lo hi (int_max b (pos 0) -ℤ int_max a (pos 0)) (volume_to fill (int_max b (pos 0)) den -ℤ volume_to fill (int_max a (pos 0)) den)
fill_rises fill p q lo hi den a b d t s x y z w =
    let a0 = int_max a (pos 0) in
    let b0 = int_max b (pos 0) in
    let zero = int_zero_mul den in
    ⊎_elim
    (λ (l : pos 0 <ℤ b).
    volume_rises fill (pos 0) p q lo hi den a0 b0 d t s
    (omega (arith, ints, clamps)) (omega (arith, ints, clamps)) (omega (arith, ints, clamps))
    (omega (arith, ints, clamps, zero)) (omega (arith, ints, clamps, zero)))
    (λ (l : b ≤ℤ pos 0).
    let none_a : a0 ≡ pos 0 = omega (arith, ints, clamps) in
    let none_b : b0 ≡ pos 0 = omega (arith, ints, clamps) in
    rise_of_none lo hi (b0 -ℤ a0) (volume_to fill b0 den -ℤ volume_to fill a0 den) (omega (arith, ints))
    (omega (arith, ints, ap (λ v. volume_to fill v den) none_a, ap (λ v. volume_to fill v den) none_b)))
    (int_lt_or_le (pos 0) b)

-- between the offsets a and b of a range within the slabs, the net volume rises by the slopes
pub net_rises : (cut fill : List Slab) (p q lo hi den a b : ℤ) → pos 0 <ℤ den → AreThick cut → AreThick fill
    → AreSlopesWithin cut (pos 0) (neg_ℤ q) (neg_ℤ p) lo hi → AreSlopesWithin fill (pos 0) p q lo hi
    → (p *ℤ den) ≤ℤ a → a ≤ℤ b → b ≤ℤ (q *ℤ den) → b ≤ℤ (thickness_of fill *ℤ den) → neg_ℤ a ≤ℤ (thickness_of cut *ℤ den)
    → IsRise lo hi (b -ℤ a) (net_volume cut fill b den -ℤ net_volume cut fill a den)
net_rises cut fill p q lo hi den a b d tc tf sc sf x y z wf wc =
    let filled = fill_rises fill p q lo hi den a b d tf sf x y z wf in
    let dug = fill_rises cut (neg_ℤ q) (neg_ℤ p) lo hi den (neg_ℤ b) (neg_ℤ a) d tc sc (omega (arith, ints, int_neg_mul q den)) (omega (arith, ints)) (omega (arith, ints, int_neg_mul p den)) wc in
    let fa = volume_to fill (int_max a (pos 0)) den in
    let fb = volume_to fill (int_max b (pos 0)) den in
    let ca = volume_to cut (int_max (neg_ℤ a) (pos 0)) den in
    let cb = volume_to cut (int_max (neg_ℤ b) (pos 0)) den in
    rise_as lo hi
    ((int_max b (pos 0) -ℤ int_max a (pos 0)) +ℤ (int_max (neg_ℤ a) (pos 0) -ℤ int_max (neg_ℤ b) (pos 0))) (b -ℤ a)
    ((fb -ℤ fa) +ℤ (ca -ℤ cb)) ((fb -ℤ cb) -ℤ (fa -ℤ ca))
    (omega (arith, ints, clamps))
    (omega (arith, ints))
    (rise_of_sum lo hi (int_max b (pos 0) -ℤ int_max a (pos 0)) (int_max (neg_ℤ a) (pos 0) -ℤ int_max (neg_ℤ b) (pos 0)) (fb -ℤ fa) (ca -ℤ cb) filled dug)

-- ---- scaling

-- the volume over den at den times a depth is den times the volume at the depth
pub volume_scales : (slabs : List Slab) (depth den : ℤ) → pos 0 ≤ℤ den → volume_to slabs (depth *ℤ den) den ≡ den *ℤ volume_to slabs depth (pos 1)
unfolding volume_to
volume_scales [] depth den d = omega (arith, ints)
volume_scales (slab ∷ slabs) depth den d =
    let one = int_mul_one slab.thick in
    let first = ap (λ x. slab.area *ℤ x) (int_min_mul depth slab.thick den d) in
    let less : int_max (depth *ℤ den -ℤ slab.thick *ℤ den) (pos 0) ≡ int_max (depth -ℤ slab.thick) (pos 0) *ℤ den =
    ap (λ x. int_max x (pos 0)) (sym (int_sub_mul depth slab.thick den)) ∙ ap (λ x. int_max ((depth -ℤ slab.thick) *ℤ den) x) (sym (int_zero_mul den)) ∙ int_max_mul (depth -ℤ slab.thick) (pos 0) den d in
    let rest = ap (λ x. volume_to slabs x den) less ∙ volume_scales slabs (int_max (depth -ℤ slab.thick) (pos 0)) den d in
    let first_one = ap (λ x. slab.area *ℤ int_min depth x) one in
    let rest_one = ap (λ x. volume_to slabs (int_max (depth -ℤ x) (pos 0)) (pos 1)) one in
    simp (first, rest, first_one, rest_one) (simp mults refl)

pub net_scales : (cut fill : List Slab) (offset den : ℤ) → pos 0 ≤ℤ den → net_volume cut fill (offset *ℤ den) den ≡ den *ℤ net_volume cut fill offset (pos 1)
net_scales cut fill offset den d =
    let above : int_max (offset *ℤ den) (pos 0) ≡ int_max offset (pos 0) *ℤ den = ap (λ x. int_max (offset *ℤ den) x) (sym (int_zero_mul den)) ∙ int_max_mul offset (pos 0) den d in
    let below : int_max (neg_ℤ (offset *ℤ den)) (pos 0) ≡ int_max (neg_ℤ offset) (pos 0) *ℤ den =
    ap (λ x. int_max x (pos 0)) (sym (int_neg_mul offset den)) ∙ ap (λ x. int_max (neg_ℤ offset *ℤ den) x) (sym (int_zero_mul den)) ∙ int_max_mul (neg_ℤ offset) (pos 0) den d in
    let filled = ap (λ x. volume_to fill x den) above ∙ volume_scales fill (int_max offset (pos 0)) den d in
    let dug = ap (λ x. volume_to cut x den) below ∙ volume_scales cut (int_max (neg_ℤ offset) (pos 0)) den d in
    simp mults (omega (arith, ints, filled, dug))
