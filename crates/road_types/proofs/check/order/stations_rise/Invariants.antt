use Rattle.std.proofs.Common.{◌≡◌, ◌-◌, ◌≤◌, drop}
use Rattle.road_types.specs.RecordFaults.{stations_rise}
use Rattle.road_types.proofs.check.order.stations_rise.Given as goal

abbrev pub invariant-loop-i : goal.invariant-loop-i
invariant-loop-i l = (1 ≤ l.i) × (stations_rise (drop (l.i - 1) l.sections) ≡ stations_rise l.sections)
