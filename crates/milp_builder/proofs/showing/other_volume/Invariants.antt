use Rattle.std.proofs.Common.{ℕ}
use Rattle.road_types.specs.Numbered.{IsNumber}
use Rattle.road_points.specs.Shown.{IsExactAt}
use Rattle.milp_builder.proofs.showing.other_volume.Given as goal

abbrev pub invariant-loop-before : goal.invariant-loop-before
invariant-loop-before l = (i : ℕ) → IsNumber i l.before → IsExactAt l.road l.den l.point i
