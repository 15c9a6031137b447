-- A denominator joined with that of one more basic value.
use Rattle.std.specs.Prelude.{ℤ, pos, ◌*ℤ◌, ◌<ℤ◌}
use Rattle.numbers.specs.Divisors.{Divides}

-- the least multiple of den by which the number r over e is whole
pub record IsJoined (den e r joined : ℤ) : Type 0 where
  pub positive : pos 0 <ℤ joined
  pub multiple : Divides den joined
  pub clears : Divides e (joined *ℤ r)
  pub least : (other : ℤ) → Divides den other → Divides e (other *ℤ r) → Divides joined other
