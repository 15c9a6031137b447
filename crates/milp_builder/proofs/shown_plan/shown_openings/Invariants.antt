use Rattle.std.proofs.Common.{◌≡◌}
use Rattle.algebra.specs.Lists.{list_to}
use Rattle.road_points.specs.Shown.{shown}
use Rattle.road_points.specs.ShownPlan.{opening_at}
use Rattle.milp_builder.proofs.shown_plan.shown_openings.Given as goal

abbrev pub invariant-loop-before : goal.invariant-loop-before
invariant-loop-before l = l.opens.items ≡ list_to (opening_at l.road (shown l.road l.point)) l.before
