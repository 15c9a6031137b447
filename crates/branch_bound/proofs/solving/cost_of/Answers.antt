use Rattle.road_types.proofs.AcceptedRoad.{IsAccepted-from_fault}
use Rattle.branch_bound.proofs.PlanWidths.{admissible_fits}
use Rattle.branch_bound.proofs.solving.cost_of.Goals as goal

pub judge-requires-clause-fits : goal.judge-requires-clause-fits
judge-requires-clause-fits c =
    admissible_fits c.args.road.now c.args.plan.now (IsAccepted-from_fault c.args.road.now c.requires.accepted).well_formed c.requires.den c.requires.admissible
