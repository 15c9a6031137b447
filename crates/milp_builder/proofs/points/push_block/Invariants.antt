use Rattle.std.proofs.Common.{◌≡◌, ◌++◌, ◌+◌, ◌-◌, map}
use Rattle.algebra.specs.Lists.{list_to}
use Rattle.road_types.specs.declared.column.Column.TheVariants.{Opened}
use Rattle.road_points.specs.PlanPoints.{value_in}
use Rattle.milp_builder.proofs.points.push_block.Given as goal

abbrev pub invariant-loop-before : goal.invariant-loop-before
invariant-loop-before l = l.point.items ≡ l.initial.point.items ++ map (value_in l.road l.plan) (list_to (λ before. Opened l.block (before + 1)) (l.before - 1))
