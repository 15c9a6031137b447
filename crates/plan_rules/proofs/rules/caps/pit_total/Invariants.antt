use Rattle.std.proofs.Common.{◌≡◌}
use Rattle.algebra.specs.Sums.{sum_to}
use Rattle.plan_rules.specs.Rules.{pit_share}
use Rattle.plan_rules.proofs.rules.caps.pit_total.Given as goal

abbrev pub invariant-loop-before : goal.invariant-loop-before
invariant-loop-before l = l.total ≡ sum_to (pit_share l.road l.plan l.number) l.before
