-- A cost that is no greater than another: a plan was found, or a cheaper one.
use Rattle.std.specs.Prelude.{Option, Some, None, ◌*ℤ◌, ◌≤ℤ◌}
use Rattle.numbers.specs.Fractions.{Fraction}
use Rattle.cert_tree.specs.Soundness.{HasPositiveDen}

abbrev pub IsNoDearer : Option Fraction → Option Fraction → Type 0
IsNoDearer new None = Unit {0}
IsNoDearer None (Some old) = ⊥
IsNoDearer (Some new) (Some old) = (new.num *ℤ old.den) ≤ℤ (old.num *ℤ new.den)

-- no dearer, and both costs have denominators of at least 1
pub record IsBetter (new old : Option Fraction) : Type 0 where
  pub no_dearer : IsNoDearer new old
  pub new_den : HasPositiveDen new
  pub old_den : HasPositiveDen old
