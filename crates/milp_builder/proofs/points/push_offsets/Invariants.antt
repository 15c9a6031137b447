use Rattle.std.proofs.Common.{◌≡◌, ◌++◌, map}
use Rattle.algebra.specs.Lists.{list_to}
use Rattle.road_types.specs.declared.column.Column.TheVariants.{Offset}
use Rattle.road_points.specs.PlanPoints.{value_in}
use Rattle.milp_builder.proofs.points.push_offsets.Given as goal

abbrev pub invariant-loop-before : goal.invariant-loop-before
invariant-loop-before l = l.point.items ≡ l.initial.point.items ++ map (value_in l.road l.plan) (list_to (λ i. Offset i) l.before)
