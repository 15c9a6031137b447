-- Steps of divisions and of Euclid's method, over plain numbers.
use Rattle.std.proofs.Common.{◌≡◌, ℕ, zero, suc, ◌+◌, ◌-◌, ◌*◌, ◌/◌, ◌%◌, ◌^◌, ◌≤◌, ◌<◌, ⊎_elim, arith, ap, subst}
use Rattle.std.specs.Int.{IsGcd, ◌∣◌}
use Rattle.std.proofs.Math.Nat.{mul-le-mul_right, mul-div_cancel'}
use Rattle.std.proofs.lemmas.Nat.{div-add-mod'}
use Rattle.std.proofs.lemmas.Nat.Gcd.{IsGcd-swap, IsGcd-from_sub}
use Rattle.std.proofs.lemmas.Bool.{cases_lt}

-- a quotient of the upper half, and one of the rest behind it
pub long_whole : (high low d q r : ℕ) → q * d + r ≡ low + (high % d) * 2 ^ 128 → (q + (high / d) * 2 ^ 128) * d + r ≡ low + high * 2 ^ 128
long_whole high low d q r e = let h = div-add-mod' high d in let k = ap (λ x. x * 2 ^ 128) h in omega arith

-- Euclid's step by any number of times
pub gcd_step : (k a b r g : ℕ) → a ≡ k * b + r → IsGcd b r g → IsGcd a b g
gcd_step zero a b r g e h = let s : r ≡ a = omega arith in subst (λ x. IsGcd x b g) s (IsGcd-swap b r g h)
gcd_step (suc k) a b r g e h = IsGcd-from_sub a b g (omega arith) (gcd_step k (a - b) b r g (omega arith) h)

-- and what some times are taken away from gets less
pub gets_less : (t d left rest : ℕ) → 0 < t → 0 < d → t * d + left ≡ rest → left < rest
gets_less zero d left rest p q e = absurd (omega arith)
gets_less (suc k) d left rest p q e = omega arith

-- the rest of a divisor that divides is 0
pub rest_zero : (q d rest v : ℕ) → d ∣ v → q * d + rest ≡ v → rest < d → q * d ≡ v
rest_zero q d rest v h e l =
    let k = v / d in
    let f : d * k ≡ v = mul-div_cancel' d h in
    ⊎_elim
    (λ (s : q < k). let t : q + 1 ≤ k = omega arith in let m = mul-le-mul_right d t in absurd (omega arith))
    (λ (s : k ≤ q). let m = mul-le-mul_right d s in omega arith)
    (cases_lt q k)
