use Rattle.std.proofs.Common.{ℕ, ◌≤◌, ◌<◌}
use Rattle.road_points.specs.Shown.{IsWholeAt}
use Rattle.milp_builder.proofs.showing.part_stage.Given as goal

abbrev pub invariant-loop-stage : goal.invariant-loop-stage
invariant-loop-stage l = (t : ℕ) → 2 ≤ t → t < l.stage → IsWholeAt l.road l.den l.point l.block t
