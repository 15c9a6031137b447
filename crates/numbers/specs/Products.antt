-- When the difference of two products is had by a range of numbers and by 128 bits.
use Rattle.std.specs.Prelude.{ℕ, ◌-◌, ◌^◌, ◌≤◌, max, ℤ, ◌-ℤ◌, ◌*ℤ◌, unsigned_abs}

-- a*b - c*d is of magnitude at most `greatest`, and both products are of a magnitude at most `greatest` or 2^127 - 1
pub record HasDifference (a b c d : ℤ) (greatest : ℕ) : Type 0 where
  pub left : unsigned_abs (a *ℤ b) ≤ max greatest (2 ^ 127 - 1)
  pub right : unsigned_abs (c *ℤ d) ≤ max greatest (2 ^ 127 - 1)
  pub difference : unsigned_abs (a *ℤ b -ℤ c *ℤ d) ≤ greatest
