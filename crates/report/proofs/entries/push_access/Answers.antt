use Rattle.road_types.proofs.AcceptedRoad.{IsAccepted-from_fault}
use Rattle.report.proofs.entries.push_access.Goals as goal

pub pit-pit-requires : goal.pit-pit-requires
pit-pit-requires c = rw c.access-access.ensures (((IsAccepted-from_fault c.args.road.now c.requires.accepted).well_formed).roads c.args.access c.requires.access).pit
