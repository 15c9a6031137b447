-- Sums on their way: what is added next fits, what has been added is the sum so far and keeps within bounds.
use Rattle.std.proofs.Common.{◌≡◌, ℕ, ◌+◌, ◌*◌, ◌^◌, ◌≤◌, ◌<◌, arith}
use Rattle.std.specs.Prelude.{ℤ, ◌+ℤ◌, FitsSigned, unsigned_abs}
use Rattle.std.specs.Int.{w128}
use Rattle.std.proofs.Math.Nat.{mul-le-mul_right}
use Rattle.algebra.specs.Sums.{sum_to}
use Rattle.algebra.proofs.SumsLemmas.{unsigned_abs_sum_to, sum_to_step}
use Rattle.algebra.proofs.Magnitudes.{fits_w128_add}

-- one more of n numbers of magnitude at most b
pub sum_step_fits : (f : ℕ → ℤ) (b n k : ℕ) → ((j : ℕ) → 1 ≤ j → j ≤ n → unsigned_abs (f j) ≤ b) → k < n → n * b < 2 ^ 127 → FitsSigned w128 (sum_to f k +ℤ f (k + 1))
sum_step_fits f b n k each l small =
    let before = unsigned_abs_sum_to f b k (λ j low high. each j low (omega arith)) in
    let next = each (k + 1) (omega arith) (omega arith) in
    fits_w128_add (sum_to f k) (f (k + 1)) (k * b) b before next (omega (arith, mul-le-mul_right b l))

pub sum_more : (f : ℕ → ℤ) (k : ℕ) (total next sum : ℤ) → total ≡ sum_to f k → next ≡ f (k + 1) → sum ≡ total +ℤ next → sum ≡ sum_to f (k + 1)
sum_more f k total next sum before here e = let s = sum_to_step f k in cc

pub sum_width : (f : ℕ → ℤ) (b n k : ℕ) → ((j : ℕ) → 1 ≤ j → j ≤ n → unsigned_abs (f j) ≤ b) → k ≤ n → unsigned_abs (sum_to f k) ≤ n * b
sum_width f b n k each l =
    let before = unsigned_abs_sum_to f b k (λ j low high. each j low (omega arith)) in
    omega (arith, mul-le-mul_right b l)
