-- Numbers of 64 bits.
use Rattle.std.specs.Prelude.{ℤ, pos, neg_ℤ, Bool}
use Rattle.road_types.specs.RecordFaults.{is_between}

-- the numbers from -2^63 to 2^63 - 1
abbrev pub is_narrow : ℤ → Bool
is_narrow x = is_between (neg_ℤ (pos 9223372036854775808)) (pos 9223372036854775807) x
