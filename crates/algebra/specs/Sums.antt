-- The sum of a function's values at 1, 2, .. up to a number.
use Rattle.std.specs.Prelude.{ℕ, zero, suc, ℤ, pos, ◌+ℤ◌}

-- f 1 + f 2 + .. + f n, and 0 where n is 0
abbrev pub sum_to : (ℕ → ℤ) → ℕ → ℤ
sum_to f zero = pos 0
sum_to f (suc n) = sum_to f n +ℤ f (suc n)
