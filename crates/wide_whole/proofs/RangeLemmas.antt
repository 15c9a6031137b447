-- Quotients and common divisors are no greater than what they are of.
use Rattle.std.proofs.Common.{◌≡◌, ℕ, ◌*◌, ◌≤◌, ◌<◌, arith, ap, sym, ◌∙◌, subst, mul-le-mul_left}
use Rattle.std.specs.Prelude.{ℤ, pos, ◌*ℤ◌, ◌≢◌, unsigned_abs}
use Rattle.std.proofs.lemmas.Int.{ints, unsigned_abs-mul}
use Rattle.numbers.specs.Divisors.{IsGreatestCommonDivisor}
use Rattle.numbers.proofs.DivisorsLemmas.{magnitudes_of_greatest, IsGcd-le_max}

pub exact_within : (q d v : ℤ) (n : ℕ) → d ≢ pos 0 → q *ℤ d ≡ v → unsigned_abs v < n → unsigned_abs q < n
exact_within q d v n some e l =
    let product : unsigned_abs q * unsigned_abs d ≡ unsigned_abs v = sym (unsigned_abs-mul q d) ∙ ap unsigned_abs e in
    let one : 1 ≤ unsigned_abs d = omega (arith, ints) in
    omega (arith, mul-le-mul_left (unsigned_abs q) one)

pub common_within : (a b g : ℤ) (n : ℕ) → IsGreatestCommonDivisor a b g → unsigned_abs a < n → unsigned_abs b < n → unsigned_abs g < n
common_within a b g n h p q =
    let low = h.not_negative in
    let e : g ≡ pos (unsigned_abs g) = omega (arith, ints) in
    let most = IsGcd-le_max (unsigned_abs a) (unsigned_abs b) (unsigned_abs g) (magnitudes_of_greatest a b (unsigned_abs g) (subst (λ (z : ℤ). IsGreatestCommonDivisor a b z) e h)) in
    omega arith
