use Rattle.std.proofs.Common.{◌≡◌}
use Rattle.algebra.specs.Sums.{sum_to}
use Rattle.programs.specs.Points.{cost_share}
use Rattle.rows_of.proofs.points.cost_of_point.Given as goal

abbrev pub invariant-loop-before : goal.invariant-loop-before
invariant-loop-before l = l.cost ≡ sum_to (cost_share l.milp l.point) l.before
