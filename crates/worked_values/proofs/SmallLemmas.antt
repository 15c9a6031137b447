-- A greatest common divisor is of no greater magnitude than the greater of its numbers.
use Rattle.std.proofs.Common.{ℕ, ◌≡◌, ◌≤◌, sym, arith}
use Rattle.std.specs.Prelude.{ℤ, pos, negsuc, ◌-ℤ◌, ◌*ℤ◌, FitsSigned, unsigned_abs}
use Rattle.std.specs.Int.{w8, w128}
use Rattle.std.proofs.lemmas.Int.{ints, fits_signed_from_abs}
use Rattle.algebra.proofs.Magnitudes.{fits_w128, unsigned_abs_mul_le, unsigned_abs_sub_le}
use Rattle.numbers.specs.Divisors.{IsGreatestCommonDivisor}
use Rattle.numbers.proofs.DivisorsLemmas.{IsGcd-le_max, magnitudes_of_greatest}

pub divisor_within : (a b g : ℤ) (m : ℕ) → unsigned_abs a ≤ m → unsigned_abs b ≤ m → IsGreatestCommonDivisor a b g → unsigned_abs g ≤ m
divisor_within a b (pos n) m p q h =
    let l = IsGcd-le_max (unsigned_abs a) (unsigned_abs b) n (magnitudes_of_greatest a b n h) in omega (arith, ints)
divisor_within a b (negsuc n) m p q h = let l = h.not_negative in absurd (omega (arith, ints))

pub divisor_from : (a b x y g r : ℤ) → x ≡ a → y ≡ b → r ≡ g → IsGreatestCommonDivisor x y g → IsGreatestCommonDivisor a b r
divisor_from a b x y g r p q e h = rw (p, q, sym e) at h

-- a number of magnitude at most 10 in 8 bits is the same in 128 bits, and the product of two of them fits there
pub fits_narrow : (a : ℤ) → unsigned_abs a ≤ 10 → FitsSigned w8 a
fits_narrow a p = fits_signed_from_abs w8 a (omega arith)

pub fits_wide : (a : ℤ) → unsigned_abs a ≤ 200 → FitsSigned w128 a
fits_wide a p = fits_w128 a (omega arith)

pub product_width : (a b : ℤ) → unsigned_abs a ≤ 10 → unsigned_abs b ≤ 10 → unsigned_abs (a *ℤ b) ≤ 100
product_width a b p q = unsigned_abs_mul_le a b 10 10 p q

pub difference_width : (a b : ℤ) → unsigned_abs a ≤ 100 → unsigned_abs b ≤ 100 → unsigned_abs (a -ℤ b) ≤ 200
difference_width a b p q = unsigned_abs_sub_le a b 100 100 p q
