use Rattle.std.specs.Prelude.{Option}
use Rattle.std.proofs.lemmas.Result.{IfOk-weaker}
use Rattle.std.proofs.lemmas.Int.{to_z-of_z}
use Rattle.road_types.proofs.AcceptedRoad.{IsAccepted-from_fault}
use Rattle.plan_rules.specs.declared.plan.Plan.{Plan}
use Rattle.milp_builder.specs.FoundPlans.{IsFoundPlan}
use Rattle.milp_builder.specs.inside.ShownPlans.{IsShownPlan}
use Rattle.milp_builder.proofs.BoxLaws.{points_are_plans}
use Rattle.milp_builder.proofs.ComparingLemmas.{scale_comparable, comparable_volumes}
use Rattle.milp_builder.proofs.ShownLemmas.{found_from_shown}
use Rattle.milp_builder.proofs.plans.plan_of.Goals as goal

pub whole_plan-requires-clause-well_formed : goal.whole_plan-requires-clause-well_formed
whole_plan-requires-clause-well_formed c = (IsAccepted-from_fault c.args.road.now c.requires.accepted).well_formed

pub whole_plan-requires-clause-small : goal.whole_plan-requires-clause-small
whole_plan-requires-clause-small c =
    comparable_volumes c.args.road.now (IsAccepted-from_fault c.args.road.now c.requires.accepted).well_formed c.args.range.now c.requires.fits c.args.den
    (scale_comparable c.args.den c.requires.den) c.args.point.now c.requires.point

pub returns-clause-found : goal.returns-clause-found
returns-clause-found c =
    let road = c.args.road.now in
    let box = c.args.range.now in
    let point = c.args.point.now in
    let den = c.ranges.den in
    IfOk-weaker
    c.whole_plan.result
    (λ (found : Option Plan). IsShownPlan road c.args.den point found)
    (λ (found : Option Plan). IsFoundPlan road box c.args.den point found)
    (found_from_shown road (IsAccepted-from_fault road c.requires.accepted) box c.args.den point c.requires.fits c.requires.den c.requires.point)
    (simp to_z-of_z at c.whole_plan.ensures)

pub returns-clause-points : goal.returns-clause-points
returns-clause-points c = points_are_plans c.args.road.now (IsAccepted-from_fault c.args.road.now c.requires.accepted)
