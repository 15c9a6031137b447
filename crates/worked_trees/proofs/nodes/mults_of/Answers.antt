use Rattle.road_types.proofs.AcceptedRoad.{IsAccepted-from_fault}
use Rattle.worked_trees.proofs.nodes.mults_of.Goals as goal

pub row_count-requires : goal.row_count-requires
row_count-requires c = (IsAccepted-from_fault c.args.road.now c.requires).well_formed.counted
