use Rattle.std.proofs.Common.{◌≡◌}
use Rattle.algebra.specs.Lists.{list_to}
use Rattle.road_points.specs.Shown.{shown}
use Rattle.road_points.specs.ShownPlan.{piece_at}
use Rattle.milp_builder.proofs.shown_plan.shown_pieces.Given as goal

abbrev pub invariant-loop-before : goal.invariant-loop-before
invariant-loop-before l = l.pieces.items ≡ list_to (piece_at (shown l.road l.point)) l.before
