use Rattle.std.proofs.Common.{◌≡◌}
use Rattle.algebra.specs.Sums.{sum_to}
use Rattle.report.specs.Mass.{hop_moment}
use Rattle.report.proofs.mass.moment.Given as goal

abbrev pub invariant-loop-before : goal.invariant-loop-before
invariant-loop-before l = l.total ≡ sum_to (hop_moment l.road l.plan l.stage) l.before
