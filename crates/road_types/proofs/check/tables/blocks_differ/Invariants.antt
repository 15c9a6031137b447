use Rattle.std.proofs.Common.{◌≡◌, drop}
use Rattle.road_types.specs.RecordFaults.{blocks_differ}
use Rattle.road_types.proofs.check.tables.blocks_differ.Given as goal

abbrev pub invariant-loop-i : goal.invariant-loop-i
invariant-loop-i l = blocks_differ (drop l.i l.blocks) ≡ blocks_differ l.blocks
