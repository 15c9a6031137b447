-- How large heights are whose coefficients and steps are small.
use Rattle.std.proofs.Common.{◌^◌, ◌≤◌, arith}
use Rattle.std.specs.Prelude.{ℤ, ◌+ℤ◌, ◌*ℤ◌, unsigned_abs}
use Rattle.algebra.proofs.Magnitudes.{unsigned_abs_mul_le, unsigned_abs_add_le}
use Rattle.road_types.specs.Heights.{height_along}

pub square_width : (s : ℤ) → unsigned_abs s ≤ 2 ^ 17 → unsigned_abs (s *ℤ s) ≤ 2 ^ 34
square_width s p = omega (arith, unsigned_abs_mul_le s s (2 ^ 17) (2 ^ 17) p p)

pub bend_width : (c s : ℤ) → unsigned_abs c ≤ 2 ^ 60 → unsigned_abs s ≤ 2 ^ 17 → unsigned_abs (c *ℤ (s *ℤ s)) ≤ 2 ^ 94
bend_width c s p q = omega (arith, unsigned_abs_mul_le c (s *ℤ s) (2 ^ 60) (2 ^ 34) p (square_width s q))

pub rise_width : (a b s : ℤ) → unsigned_abs a ≤ 2 ^ 64 → unsigned_abs b ≤ 2 ^ 60 → unsigned_abs s ≤ 2 ^ 17 → unsigned_abs (a +ℤ b *ℤ s) ≤ 2 ^ 78
rise_width a b s p q r =
    omega (arith, unsigned_abs_add_le a (b *ℤ s) (2 ^ 64) (2 ^ 77) p (omega (arith, unsigned_abs_mul_le b s (2 ^ 60) (2 ^ 17) q r)))

pub height_width : (a b c s : ℤ) → unsigned_abs a ≤ 2 ^ 64 → unsigned_abs b ≤ 2 ^ 60 → unsigned_abs c ≤ 2 ^ 60 → unsigned_abs s ≤ 2 ^ 17 → unsigned_abs (height_along a b c s) ≤ 2 ^ 96
height_width a b c s p q r t =
    omega (arith, unsigned_abs_add_le (a +ℤ b *ℤ s) (c *ℤ (s *ℤ s)) (2 ^ 78) (2 ^ 94) (rise_width a b s p q t) (bend_width c s r t))
