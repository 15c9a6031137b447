use Rattle.road_types.proofs.AcceptedRoad.{IsAccepted-from_fault}
use Rattle.plan_rules.specs.declared.verdict.Rule.TheVariants.{P6}
use Rattle.plan_rules.proofs.ScanLemmas.{payable}
use Rattle.plan_rules.proofs.costs.cost_totals.Goals as goal

pub totals-requires-clause-well_formed : goal.totals-requires-clause-well_formed
totals-requires-clause-well_formed c = (IsAccepted-from_fault c.args.road.now c.requires.accepted).well_formed

pub totals-requires-clause-payable : goal.totals-requires-clause-payable
totals-requires-clause-payable c =
    payable c.args.road.now c.args.plan.now (IsAccepted-from_fault c.args.road.now c.requires.accepted).well_formed c.requires.fits (c.requires.admissible.keeps P6)
