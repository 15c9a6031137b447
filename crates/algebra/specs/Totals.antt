-- The total of a function's values at 1, 2, .. up to a number, where they are no less than 0 by their kind.
use Rattle.std.specs.Prelude.{ℕ, zero, suc, ◌+◌}

-- f 1 + f 2 + .. + f n, and 0 where n is 0
abbrev pub total_to : (ℕ → ℕ) → ℕ → ℕ
total_to f zero = 0
total_to f (suc n) = total_to f n + f (suc n)
