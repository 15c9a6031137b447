use Rattle.std.proofs.Common.{ℕ}
use Rattle.algebra.specs.Numbered.{IsNumber}
use Rattle.programs.specs.Points.{IsInBoundsAt}
use Rattle.rows_of.proofs.points.is_in_bounds.Given as goal

abbrev pub invariant-loop-before : goal.invariant-loop-before
invariant-loop-before l = (j : ℕ) → IsNumber j l.before → IsInBoundsAt l.milp l.den l.point j
