use Rattle.road_types.proofs.AcceptedRoad.{IsWellFormed-from_fault}
use Rattle.road_types.proofs.road.Road.is_sized.Goals as goal

pub row_count-requires : goal.row_count-requires
row_count-requires c = (IsWellFormed-from_fault c.args.self.now c.requires).counted

pub column_count-requires : goal.column_count-requires
column_count-requires c = (IsWellFormed-from_fault c.args.self.now c.requires).counted
