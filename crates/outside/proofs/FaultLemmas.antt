-- Numbers of faults over a run of calls.
use Rattle.std.proofs.Common.{◌≡◌, ℕ, ◌≤◌, arith}
use Rattle.outside.specs.Faults.{one_more, HasRisen}

-- a number that rose in one call of a run rose in the run, since it fell in no other
pub HasRisen-within : (before first last now : ℕ) → before ≤ first → HasRisen first last → last ≤ now → HasRisen before now
HasRisen-within before first last now earlier risen later = omega arith

-- one more fault is a rise
pub HasRisen-one_more : (before : ℕ) → HasRisen before (one_more before)
HasRisen-one_more before = omega arith

-- where there is one more fault, the number rose
pub HasRisen-from_one_more : (before now : ℕ) → now ≡ one_more before → HasRisen before now
HasRisen-from_one_more before now is = omega arith
