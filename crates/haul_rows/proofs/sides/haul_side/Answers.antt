use Rattle.road_types.proofs.AcceptedRoad.{IsAccepted-from_fault}
use Rattle.haul_rows.proofs.sides.haul_side.Goals as goal

pub section_row_count-requires : goal.section_row_count-requires
section_row_count-requires c = IsAccepted-from_fault c.args.road.now c.requires.accepted

pub first_side-requires-clause-accepted : goal.first_side-requires-clause-accepted
first_side-requires-clause-accepted c = IsAccepted-from_fault c.args.road.now c.requires.accepted
