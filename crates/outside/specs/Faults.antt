-- Numbers of faults: each counts up by one and stops at the last value of 64 bits.
--     one_more n      the number after one more fault
--     HasRisen before now      it rose in a call, or stands at its last value as the call ends
use Rattle.std.specs.Prelude.{ℕ, ◌+◌, ◌-◌, ◌^◌, ◌≤◌, min}

-- the number after one more fault
abbrev pub one_more : ℕ → ℕ
one_more n = min (n + 1) (2 ^ 64 - 1)

-- the number rose in a call, or stands at its last value as the call ends
abbrev pub HasRisen : ℕ → ℕ → Type 0
HasRisen before now = one_more before ≤ now

-- the two numbers of faults of a store
pub record FaultCounts : Type 0 where
  pub read : ℕ
  pub write : ℕ
