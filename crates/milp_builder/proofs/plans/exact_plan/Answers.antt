use Rattle.std.proofs.Common.{◌≡◌, sym, subst}
use Rattle.std.proofs.lemmas.Result.{IfOk-weaker}
use Rattle.std.proofs.lemmas.Int.{to_z-of_z}
use Rattle.road_types.proofs.AcceptedRoad.{IsAccepted-from_fault}
use Rattle.plan_rules.specs.declared.plan.Plan.{Plan}
use Rattle.road_points.specs.Shown.{shown}
use Rattle.road_points.specs.ShownPlan.{plan_at}
use Rattle.milp_builder.specs.FoundPlans.{IsPlanOfPoint}
use Rattle.milp_builder.proofs.BoxLaws.{shown_plan_is}
use Rattle.milp_builder.proofs.plans.exact_plan.Goals as goal

pub shown_plan-requires-clause-well_formed : goal.shown_plan-requires-clause-well_formed
shown_plan-requires-clause-well_formed c = (IsAccepted-from_fault c.args.road.now c.requires.accepted).well_formed

pub returns : goal.returns
returns c =
    let road = c.args.road.now in
    let box = c.args.range.now in
    let point = c.args.point.now in
    let den = c.ranges.den in
    let found = shown_plan_is road (IsAccepted-from_fault road c.requires.accepted) box c.args.den point c.requires.fits c.requires.den.from_one c.requires.point
    c.requires.whole c.requires.exact in
    IfOk-weaker
    c.shown_plan.result
    (λ (plan : Plan). plan ≡ plan_at road c.args.den (shown road point))
    (λ (plan : Plan). IsPlanOfPoint road box c.args.den point plan)
    (λ (plan : Plan) (e : plan ≡ plan_at road c.args.den (shown road point)). subst (IsPlanOfPoint road box c.args.den point) (sym e) found)
    (simp to_z-of_z at c.shown_plan.ensures)
