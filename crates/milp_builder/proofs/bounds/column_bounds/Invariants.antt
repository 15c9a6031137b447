use Rattle.std.proofs.Common.{◌≡◌, map, take}
use Rattle.road_types.specs.Columns.{bounds_of}
use Rattle.milp_builder.proofs.bounds.column_bounds.Given as goal

abbrev pub invariant-loop-kind : goal.invariant-loop-kind
invariant-loop-kind l = l.bounds.items ≡ map (bounds_of l.road l.range.heights l.range.opens) (take l.kind-index l.kinds)
