use Rattle.std.proofs.Common.{◌≡◌, map}
use Rattle.road_file.specs.RoadOf.{pit_from}
use Rattle.road_file.proofs.reader.pits.Given as goal

abbrev pub invariant-loop-file_pit : goal.invariant-loop-file_pit
invariant-loop-file_pit l = l.built.items ≡ map pit_from l.yielded
