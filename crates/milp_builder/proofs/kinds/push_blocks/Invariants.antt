use Rattle.std.proofs.Common.{◌≡◌, ◌++◌}
use Rattle.algebra.specs.Lists.{flat_to}
use Rattle.road_types.specs.Columns.{block_columns}
use Rattle.milp_builder.proofs.kinds.push_blocks.Given as goal

abbrev pub invariant-loop-before : goal.invariant-loop-before
invariant-loop-before l = l.kinds.items ≡ l.initial.kinds.items ++ flat_to (block_columns l.road) l.before
