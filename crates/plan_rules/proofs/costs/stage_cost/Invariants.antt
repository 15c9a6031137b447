use Rattle.std.proofs.Common.{◌≡◌}
use Rattle.algebra.specs.Sums.{sum_to}
use Rattle.plan_rules.specs.Costs.{entry_cost}
use Rattle.plan_rules.proofs.costs.stage_cost.Given as goal

abbrev pub invariant-loop-before : goal.invariant-loop-before
invariant-loop-before l = l.total ≡ sum_to (entry_cost l.road l.plan l.movement l.stage) l.before
