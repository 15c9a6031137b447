use Rattle.std.proofs.Common.{◌≡◌}
use Rattle.algebra.specs.Sums.{sum_to}
use Rattle.plan_rules.specs.Costs.{removal_cost}
use Rattle.plan_rules.proofs.costs.removal_total.Given as goal

abbrev pub invariant-loop-before : goal.invariant-loop-before
invariant-loop-before l = l.total ≡ sum_to (removal_cost l.road l.plan) l.before
