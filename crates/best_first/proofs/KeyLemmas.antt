-- The order of keys.
use Rattle.std.proofs.Common.{◌≤◌, ◌^◌, arith}
use Rattle.std.specs.Prelude.{ℤ, pos, ◌*ℤ◌, ◌≤ℤ◌, ◌<ℤ◌, unsigned_abs, FitsSigned}
use Rattle.std.specs.Int.{w128}
use Rattle.std.proofs.lemmas.Int.{ints}
use Rattle.algebra.specs.Scale.{IsScale, greatest_scale}
use Rattle.algebra.proofs.Products.{mults}
use Rattle.algebra.proofs.Order.{int_le_refl, int_mul_le_right, int_mul_lt_right, int_le_of_mul_right, int_lt_of_mul_right}
use Rattle.algebra.proofs.Magnitudes.{unsigned_abs_le, fits_w128_mul}
use Rattle.best_first.specs.Keys.{IsLess, IsAtMost}

pub at_most_itself : (key : ℤ × ℤ) → IsAtMost key key
at_most_itself key = int_le_refl (key.0 *ℤ key.1)

-- a/s <= b/t <= c/u, where the scales are above 0
chain : (a s b t c u : ℤ) → pos 1 ≤ℤ s → pos 1 ≤ℤ t → pos 1 ≤ℤ u → (a *ℤ t) ≤ℤ (b *ℤ s) → (b *ℤ u) ≤ℤ (c *ℤ t) → (a *ℤ u) ≤ℤ (c *ℤ s)
chain a s b t c u one_s one_t one_u first second =
    let left = int_mul_le_right (a *ℤ t) (b *ℤ s) u (omega (arith, ints)) first in
    let right = int_mul_le_right (b *ℤ u) (c *ℤ t) s (omega (arith, ints)) second in
    let left' = simp mults at left in
    let right' = simp mults at right in
    int_le_of_mul_right (a *ℤ u) (c *ℤ s) t (omega (arith, ints)) (simp mults (omega (arith, ints)))

-- a/s < b/t <= c/u
chain_less : (a s b t c u : ℤ) → pos 1 ≤ℤ s → pos 1 ≤ℤ t → pos 1 ≤ℤ u → (a *ℤ t) <ℤ (b *ℤ s) → (b *ℤ u) ≤ℤ (c *ℤ t) → (a *ℤ u) <ℤ (c *ℤ s)
chain_less a s b t c u one_s one_t one_u first second =
    let left = int_mul_lt_right (a *ℤ t) (b *ℤ s) u (omega (arith, ints)) first in
    let right = int_mul_le_right (b *ℤ u) (c *ℤ t) s (omega (arith, ints)) second in
    let left' = simp mults at left in
    let right' = simp mults at right in
    int_lt_of_mul_right (a *ℤ u) (c *ℤ s) t (omega (arith, ints)) (simp mults (omega (arith, ints)))

pub at_most_along : (a b c : ℤ × ℤ) → pos 1 ≤ℤ a.1 → pos 1 ≤ℤ b.1 → pos 1 ≤ℤ c.1 → IsAtMost a b → IsAtMost b c → IsAtMost a c
at_most_along a b c one_a one_b one_c first second = chain a.0 a.1 b.0 b.1 c.0 c.1 one_a one_b one_c first second

pub less_along : (a b c : ℤ × ℤ) → pos 1 ≤ℤ a.1 → pos 1 ≤ℤ b.1 → pos 1 ≤ℤ c.1 → IsLess a b → IsAtMost b c → IsLess a c
less_along a b c one_a one_b one_c first second = chain_less a.0 a.1 b.0 b.1 c.0 c.1 one_a one_b one_c first second

pub product_fits : (value scale : ℤ) → unsigned_abs value ≤ 2 ^ 86 → IsScale scale → FitsSigned w128 (value *ℤ scale)
product_fits value scale within s =
    fits_w128_mul value scale (2 ^ 86) greatest_scale within (unsigned_abs_le scale greatest_scale (let one = s.from_one in omega (arith, ints)) s.at_most) (omega arith)
