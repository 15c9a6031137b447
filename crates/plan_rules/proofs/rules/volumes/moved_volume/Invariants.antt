use Rattle.std.proofs.Common.{◌≡◌}
use Rattle.algebra.specs.Sums.{sum_to}
use Rattle.plan_rules.specs.Rules.{fill_less_cut}
use Rattle.plan_rules.proofs.rules.volumes.moved_volume.Given as goal

abbrev pub invariant-loop-before : goal.invariant-loop-before
invariant-loop-before l = l.total ≡ sum_to (fill_less_cut l.plan l.number) l.before
