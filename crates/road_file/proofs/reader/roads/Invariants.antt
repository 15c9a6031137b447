use Rattle.std.proofs.Common.{◌≡◌, take, map}
use Rattle.road_file.specs.RoadOf.{access_from}
use Rattle.road_file.proofs.reader.roads.Given as goal

abbrev pub invariant-loop-road : goal.invariant-loop-road
invariant-loop-road l = l.built.items ≡ map (access_from l.pits) (take l.road-index l.roads)
