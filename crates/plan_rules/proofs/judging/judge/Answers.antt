use Rattle.road_types.proofs.AcceptedRoad.{IsAccepted-from_fault}
use Rattle.plan_rules.proofs.judging.judge.Goals as goal

pub verdict_of-requires-clause-well_formed : goal.verdict_of-requires-clause-well_formed
verdict_of-requires-clause-well_formed c = (IsAccepted-from_fault c.args.road.now c.requires.accepted).well_formed
