-- Calls are counted from 1, and those with the listed numbers fail.
--     next_call calls      the number of the call after so many
--     FailsNext fails calls      that call is one of those that fail
use Rattle.std.specs.Prelude.{ℕ, ◌+◌, ◌-◌, ◌^◌, min, List, Contains}

-- The number of the call after so many. The count stops at the last value of 128 bits, which no list of `u64` has.
abbrev pub next_call : ℕ → ℕ
next_call calls = min (calls + 1) (2 ^ 128 - 1)

-- the call after so many is one of those that fail
abbrev pub FailsNext : List ℕ → ℕ → Type 0
FailsNext fails calls = Contains fails (next_call calls)
