use Rattle.std.proofs.Common.{◌≡◌, ◌++◌}
use Rattle.algebra.specs.Lists.{list_to}
use Rattle.milp_builder.specs.inside.Amounts.{column_in}
use Rattle.milp_builder.proofs.kinds.push_amounts.Given as goal

abbrev pub invariant-loop-before : goal.invariant-loop-before
invariant-loop-before l = l.kinds.items ≡ l.initial.kinds.items ++ list_to (λ i. column_in l.amount i l.stage) l.before
