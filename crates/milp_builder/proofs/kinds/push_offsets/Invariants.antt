use Rattle.std.proofs.Common.{◌≡◌, ◌++◌}
use Rattle.algebra.specs.Lists.{list_to}
use Rattle.road_types.specs.declared.column.Column.TheVariants.{Offset}
use Rattle.milp_builder.proofs.kinds.push_offsets.Given as goal

abbrev pub invariant-loop-before : goal.invariant-loop-before
invariant-loop-before l = l.kinds.items ≡ l.initial.kinds.items ++ list_to (λ i. Offset i) l.before
