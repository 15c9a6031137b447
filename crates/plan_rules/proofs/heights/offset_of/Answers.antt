use Rattle.road_types.proofs.AcceptedRoad.{IsAccepted-from_fault}
use Rattle.plan_rules.proofs.heights.offset_of.Goals as goal

pub offset_at-requires-clause-well_formed : goal.offset_at-requires-clause-well_formed
offset_at-requires-clause-well_formed c = (IsAccepted-from_fault c.args.road.now c.requires.accepted).well_formed
