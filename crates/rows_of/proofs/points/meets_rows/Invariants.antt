use Rattle.std.proofs.Common.{ℕ}
use Rattle.algebra.specs.Numbered.{IsNumber}
use Rattle.programs.specs.Programs.{row_at}
use Rattle.programs.specs.Points.{MeetsRow}
use Rattle.rows_of.proofs.points.meets_rows.Given as goal

abbrev pub invariant-loop-before : goal.invariant-loop-before
invariant-loop-before l = (i : ℕ) → IsNumber i l.before → MeetsRow l.den l.point (row_at l.milp i)
