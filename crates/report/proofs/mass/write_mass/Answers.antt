use Rattle.road_types.proofs.AcceptedRoad.{IsAccepted-from_fault}
use Rattle.report.specs.Reports.{plan_found}
use Rattle.report.proofs.MassLemmas.{found_zones}
use Rattle.report.proofs.mass.write_mass.Goals as goal

pub returns-clause-zones : goal.returns-clause-zones
returns-clause-zones c = found_zones c.args.road.now (plan_found c.args.found.now) (IsAccepted-from_fault c.args.road.now c.requires.accepted).well_formed c.requires.reportable

pub returns-in_err-push_mass-clause-zones : goal.returns-in_err-push_mass-clause-zones
returns-in_err-push_mass-clause-zones c = found_zones c.args.road.now (plan_found c.args.found.now) (IsAccepted-from_fault c.args.road.now c.requires.accepted).well_formed c.requires.reportable
