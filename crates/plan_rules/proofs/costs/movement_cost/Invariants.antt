use Rattle.std.proofs.Common.{◌≡◌}
use Rattle.algebra.specs.Sums.{sum_to}
use Rattle.plan_rules.specs.Costs.{stage_cost}
use Rattle.plan_rules.proofs.costs.movement_cost.Given as goal

abbrev pub invariant-loop-before : goal.invariant-loop-before
invariant-loop-before l = l.total ≡ sum_to (stage_cost l.road l.plan l.movement) l.before
