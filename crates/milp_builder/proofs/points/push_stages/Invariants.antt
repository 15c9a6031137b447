use Rattle.std.proofs.Common.{◌≡◌, ◌++◌, map}
use Rattle.algebra.specs.Lists.{flat_to}
use Rattle.road_types.specs.Columns.{stage_columns}
use Rattle.road_points.specs.PlanPoints.{value_in}
use Rattle.milp_builder.proofs.points.push_stages.Given as goal

abbrev pub invariant-loop-before : goal.invariant-loop-before
invariant-loop-before l = l.point.items ≡ l.initial.point.items ++ map (value_in l.road l.plan) (flat_to (stage_columns l.road) l.before)
