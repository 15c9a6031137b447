use Rattle.std.proofs.Common.{◌≡◌}
use Rattle.road_points.specs.Shown.{shown}
use Rattle.road_points.specs.ShownPlan.{table_to}
use Rattle.milp_builder.specs.inside.Amounts.{column_in}
use Rattle.milp_builder.proofs.shown_plan.shown_table.Given as goal

abbrev pub invariant-loop-before : goal.invariant-loop-before
invariant-loop-before l = l.rows.items ≡ table_to (λ i t. shown l.road l.point (column_in l.amount i t)) l.before l.entries
