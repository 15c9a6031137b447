-- The greatest magnitude of some numbers.
use Rattle.std.specs.Prelude.{ℕ, max, List, [], ◌∷◌, ℤ, unsigned_abs}

-- 0 where there is none
abbrev pub greatest_magnitude : List ℤ → ℕ
greatest_magnitude [] = 0
greatest_magnitude (y ∷ ys) = max (unsigned_abs y) (greatest_magnitude ys)
