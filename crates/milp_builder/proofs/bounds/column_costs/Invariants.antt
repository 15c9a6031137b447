use Rattle.std.proofs.Common.{◌≡◌, map, take}
use Rattle.road_types.specs.Columns.{unit_cost}
use Rattle.milp_builder.proofs.bounds.column_costs.Given as goal

abbrev pub invariant-loop-kind : goal.invariant-loop-kind
invariant-loop-kind l = l.costs.items ≡ map (unit_cost l.road) (take l.kind-index l.kinds)
