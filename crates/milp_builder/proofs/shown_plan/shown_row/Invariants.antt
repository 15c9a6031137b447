use Rattle.std.proofs.Common.{◌≡◌}
use Rattle.algebra.specs.Lists.{list_to}
use Rattle.road_points.specs.Shown.{shown}
use Rattle.milp_builder.specs.inside.Amounts.{column_in}
use Rattle.milp_builder.proofs.shown_plan.shown_row.Given as goal

abbrev pub invariant-loop-before : goal.invariant-loop-before
invariant-loop-before l = l.row.items ≡ list_to (λ i. shown l.road l.point (column_in l.amount i l.stage)) l.before
