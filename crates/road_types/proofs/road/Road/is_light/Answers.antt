use Rattle.road_types.proofs.AcceptedRoad.{IsWellFormed-from_fault}
use Rattle.road_types.proofs.road.Road.is_light.Goals as goal

pub weight-requires : goal.weight-requires
weight-requires c = IsWellFormed-from_fault c.args.self.now c.requires
