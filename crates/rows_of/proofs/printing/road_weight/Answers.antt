use Rattle.road_types.proofs.AcceptedRoad.{IsAccepted-from_fault}
use Rattle.rows_of.proofs.printing.road_weight.Goals as goal

pub weight-requires : goal.weight-requires
weight-requires c = (IsAccepted-from_fault c.args.road.now c.requires).well_formed
