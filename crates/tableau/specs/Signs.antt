-- Signs of two numbers that agree or are opposite, and a number turned by a sign.
use Rattle.std.specs.Prelude.{ℤ, pos, neg_ℤ, int_lt, ◌<ℤ◌, cond, ◌⊎◌}

-- both are above 0, or both below
abbrev pub IsSameSign : ℤ → ℤ → Type 0
IsSameSign a b = ((pos 0 <ℤ a) × (pos 0 <ℤ b)) ⊎ ((a <ℤ pos 0) × (b <ℤ pos 0))

-- one is above 0 and the other below
abbrev pub IsOppositeSign : ℤ → ℤ → Type 0
IsOppositeSign a b = ((pos 0 <ℤ a) × (b <ℤ pos 0)) ⊎ ((a <ℤ pos 0) × (pos 0 <ℤ b))

-- z with the sign of p: the opposite of z where p is below 0
abbrev pub turned : ℤ → ℤ → ℤ
turned p z = cond (int_lt p (pos 0)) (neg_ℤ z) z
