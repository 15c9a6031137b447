use Rattle.std.proofs.Common.{◌≡◌, ◌+◌, drop}
use Rattle.road_types.specs.Heights.{knots_before}
use Rattle.road_types.proofs.segments.knots_before.Given as goal

abbrev pub invariant-loop-before : goal.invariant-loop-before
invariant-loop-before l = l.before + knots_before (drop l.before l.knots) l.station ≡ knots_before l.knots l.station
