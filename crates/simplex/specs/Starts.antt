-- The rows with which a tableau starts, and when a program's numbers are in range.
use Rattle.std.specs.Prelude.{ℕ, ◌+◌, ◌≤◌, ◌==◌, if◌then◌else◌, ℤ, pos, negsuc, unsigned_abs}
use Rattle.programs.specs.Programs.{Program, column_count, cost_at, row_at, coefficient}
use Rattle.tableau.specs.Programs.{Given}
use Rattle.tableau.specs.Operations.{IsGivenNumber}

-- every coefficient, cost and bound is of a magnitude up to the greatest
abbrev pub IsInRange : ℕ → Given → Type 0
IsInRange greatest g = (i j : ℕ) (z : ℤ) → IsGivenNumber g i j z → unsigned_abs z ≤ greatest

-- the cost row at the start: the scale 1 at column 0, and the costs
abbrev pub cost_entry : Program → ℕ → ℤ
cost_entry program j = if j == 0 then pos 1 else cost_at program j

-- row i at the start: its coefficients, and -1 at its slack
abbrev pub start_entry : Program → ℕ → ℕ → ℤ
start_entry program i j = if j == column_count program + i then negsuc 0 else coefficient j (row_at program i).terms
