-- The right sides of a section's four rows by their places.
use Rattle.std.specs.Prelude.{ℕ, zero, suc, ℤ}
use Rattle.road_types.specs.Lines.{Lines}

-- that of the row at a place, counted from 0
abbrev pub right_at : ℕ → Lines → ℤ
right_at zero lines = lines.above_least
right_at (suc zero) lines = lines.below_greatest
right_at (suc (suc zero)) lines = lines.below_least
right_at (suc (suc (suc place))) lines = lines.above_greatest
