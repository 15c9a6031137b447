use Rattle.road_types.proofs.AcceptedRoad.{IsAccepted-from_fault}
use Rattle.road_points.proofs.PlanFacts.{facts_of_admissible}
use Rattle.milp_builder.proofs.BoxLaws.{plans_are_points}
use Rattle.milp_builder.proofs.points.point_of.Goals as goal

pub numbers_of-requires-clause-well_formed : goal.numbers_of-requires-clause-well_formed
numbers_of-requires-clause-well_formed c = (IsAccepted-from_fault c.args.road.now c.requires.accepted).well_formed

pub numbers_of-requires-clause-limited : goal.numbers_of-requires-clause-limited
numbers_of-requires-clause-limited c = record { each = (facts_of_admissible c.args.road.now c.args.plan.now c.requires.admissible).limits }

pub returns-clause-plans : goal.returns-clause-plans
returns-clause-plans c = plans_are_points c.args.road.now (IsAccepted-from_fault c.args.road.now c.requires.accepted)
