use Rattle.std.proofs.Common.{◌≡◌, ◌≤◌}
use Rattle.road_types.specs.declared.column.Column.TheVariants.{Opened}
use Rattle.road_points.specs.Shown.{shown}
use Rattle.road_points.specs.ShownPlan.{zeros_to}
use Rattle.milp_builder.proofs.shown_plan.shown_opening.Given as goal

abbrev pub invariant-loop-before : goal.invariant-loop-before
invariant-loop-before l = record {
  closed_is : l.closed ≡ zeros_to (λ t. shown l.road l.point (Opened l.block t)) l.before;
  few : l.closed ≤ l.before;
}
