use Rattle.std.proofs.Common.{◌≡◌}
use Rattle.algebra.specs.Sums.{sum_to}
use Rattle.plan_rules.specs.Rules.{access_share}
use Rattle.plan_rules.proofs.rules.flows.access_total.Given as goal

abbrev pub invariant-loop-before : goal.invariant-loop-before
invariant-loop-before l = l.total ≡ sum_to (access_share l.road l.plan l.kind l.stage l.number) l.before
