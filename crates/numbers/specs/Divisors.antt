-- Divisibility among whole numbers: a divisor, and the greatest common divisor of two numbers.
use Rattle.std.specs.Prelude.{◌≡◌, ℤ, pos, ◌*ℤ◌, ◌≤ℤ◌}

-- n is a multiple of d
abbrev pub Divides : ℤ → ℤ → Type 0
Divides d n = (k : ℤ) × (n ≡ d *ℤ k)

-- g divides both, every common divisor divides g, and g is never negative: so it is 0 of 0 and 0
pub record IsGreatestCommonDivisor (a b g : ℤ) : Type 0 where
  pub divides_left : Divides g a
  pub divides_right : Divides g b
  pub greatest : (d : ℤ) → Divides d a → Divides d b → Divides d g
  pub not_negative : pos 0 ≤ℤ g
