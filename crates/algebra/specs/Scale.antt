-- The scale of whole numerators: from 1 to one greatest number, which all denominators and multipliers keep to.
use Rattle.std.specs.Prelude.{ℕ, ◌^◌, ℤ, pos, ◌≤ℤ◌}

-- the greatest denominator of a plan or a bound, and the greatest scale and magnitude of a multiplier
abbrev pub greatest_scale : ℕ
greatest_scale = 2 ^ 40

-- a denominator or a scale within the limit
pub record IsScale (x : ℤ) : Type 0 where
  pub from_one : pos 1 ≤ℤ x
  pub at_most : x ≤ℤ pos greatest_scale
