use Rattle.std.proofs.Common.{◌≡◌, drop}
use Rattle.road_types.specs.RecordFaults.{names_differ}
use Rattle.road_types.proofs.check.tables.names_differ.Given as goal

abbrev pub invariant-loop-i : goal.invariant-loop-i
invariant-loop-i l = names_differ (drop l.i l.pits) ≡ names_differ l.pits
