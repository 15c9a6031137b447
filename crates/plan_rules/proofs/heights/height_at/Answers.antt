use Rattle.road_types.proofs.AcceptedRoad.{IsAccepted-from_fault}
use Rattle.plan_rules.proofs.heights.height_at.Goals as goal

pub height_on-requires-clause-well_formed : goal.height_on-requires-clause-well_formed
height_on-requires-clause-well_formed c = (IsAccepted-from_fault c.args.road.now c.requires.accepted).well_formed
