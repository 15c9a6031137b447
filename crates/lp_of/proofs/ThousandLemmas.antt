-- A greatest common divisor is of no greater magnitude than the greater of its numbers.
use Rattle.std.proofs.Common.{ℕ, ◌≡◌, ◌≤◌, sym, arith}
use Rattle.std.specs.Prelude.{ℤ, pos, negsuc, unsigned_abs}
use Rattle.std.proofs.lemmas.Int.{ints}
use Rattle.numbers.specs.Divisors.{IsGreatestCommonDivisor}
use Rattle.numbers.proofs.DivisorsLemmas.{IsGcd-le_max, magnitudes_of_greatest}

pub divisor_within : (a b g : ℤ) (m : ℕ) → unsigned_abs a ≤ m → unsigned_abs b ≤ m → IsGreatestCommonDivisor a b g → unsigned_abs g ≤ m
divisor_within a b (pos n) m p q h =
    let l = IsGcd-le_max (unsigned_abs a) (unsigned_abs b) n (magnitudes_of_greatest a b n h) in omega (arith, ints)
divisor_within a b (negsuc n) m p q h = let l = h.not_negative in absurd (omega (arith, ints))

pub divisor_from : (a b x y g r : ℤ) → x ≡ a → y ≡ b → r ≡ g → IsGreatestCommonDivisor x y g → IsGreatestCommonDivisor a b r
divisor_from a b x y g r p q e h = rw (p, q, sym e) at h
