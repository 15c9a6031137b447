-- Multipliers while they are written down.
use Rattle.std.specs.Prelude.{ℕ, ◌++◌, List, [], ◌∷◌, ℤ, unsigned_abs, ◌==◌, if◌then◌else◌}

-- the pairs with one more, unless its multiplier is 0
abbrev pub pushed_unless_zero : List (ℕ × ℤ) → ℕ → ℤ → List (ℕ × ℤ)
pushed_unless_zero pairs row mult = if unsigned_abs mult == 0 then pairs else pairs ++ ((row, mult) ∷ [])
