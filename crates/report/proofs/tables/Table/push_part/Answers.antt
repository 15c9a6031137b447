use Rattle.road_types.proofs.AcceptedRoad.{IsAccepted-from_fault}
use Rattle.report.proofs.MassLemmas.{payable_hauls}
use Rattle.report.proofs.tables.Table.push_part.Goals as goal

pub push_moment-requires-clause-well_formed : goal.push_moment-requires-clause-well_formed
push_moment-requires-clause-well_formed c = (IsAccepted-from_fault c.args.road.now c.requires.accepted).well_formed

pub push_moment-requires-clause-payable : goal.push_moment-requires-clause-payable
push_moment-requires-clause-payable c =
    payable_hauls c.args.road.now c.args.plan.now (IsAccepted-from_fault c.args.road.now c.requires.accepted).well_formed c.requires.fits c.requires.admissible
