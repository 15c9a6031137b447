use Rattle.std.proofs.Common.{◌≡◌}
use Rattle.algebra.specs.Sums.{sum_to}
use Rattle.plan_rules.specs.Plans.{amount}
use Rattle.plan_rules.proofs.rules.caps.access_amount.Given as goal

abbrev pub invariant-loop-before : goal.invariant-loop-before
invariant-loop-before l = l.total ≡ sum_to (λ t. amount l.plan.roads t l.access) l.before
