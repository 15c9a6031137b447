-- Natural numbers below 2^256 in two halves of 128 bits, and whole numbers as a sign and such a magnitude.
use Rattle.std.specs.Prelude.{ℕ, ◌+◌, ◌*◌, ◌^◌, Bool, cond, ℤ, pos, neg_ℤ}
use Rattle.wide_products.specs.declared.magnitude.Magnitude.{Magnitude}
use Rattle.wide_products.specs.declared.wide.Wide.{Wide}

-- the natural number of two halves
abbrev pub natural_of : Magnitude → ℕ
natural_of m = m.low + m.high * 2 ^ 128

-- the whole number of a sign and a magnitude; 0 has either sign
abbrev pub signed : Bool → ℕ → ℤ
signed negative n = cond negative (neg_ℤ (pos n)) (pos n)

-- the whole number that a value stands for
abbrev pub whole_of : Wide → ℤ
whole_of w = signed w.negative (natural_of w.magnitude)
