use Rattle.road_types.proofs.AcceptedRoad.{IsAccepted-from_fault}
use Rattle.haul_rows.proofs.rows.haul_rows.Goals as goal

pub put_rows-requires-clause-accepted : goal.put_rows-requires-clause-accepted
put_rows-requires-clause-accepted c = IsAccepted-from_fault c.args.road.now c.requires.accepted
