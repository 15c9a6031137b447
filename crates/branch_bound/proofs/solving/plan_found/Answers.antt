use Rattle.std.proofs.Common.{FitsSigned, subst, Option}
use Rattle.std.specs.Int.{w128}
use Rattle.std.proofs.lemmas.Int.{to_z-of_z}
use Rattle.plan_rules.specs.declared.plan.Plan.{Plan}
use Rattle.milp_builder.specs.FoundPlans.{IsFoundPlan, IsPlanOfPoint}
use Rattle.branch_bound.proofs.PricedLemmas.{priced_plan}
use Rattle.branch_bound.proofs.solving.plan_found.Goals as goal

pub returns : goal.returns
returns c =
    let fits : FitsSigned w128 c.args.den = c.ranges.den in
    let found : IsFoundPlan c.args.road.now c.args.range.now c.args.den c.args.point.now c.in_ok-plan.field-0 = simp to_z-of_z at c.in_ok-plan.ensures.found in
    let plan : IsPlanOfPoint c.args.road.now c.args.range.now c.args.den c.args.point.now c.in-Some.plan =
    subst (λ (o : Option Plan). IsFoundPlan c.args.road.now c.args.range.now c.args.den c.args.point.now o) c.in-Some.is found in
    priced_plan c.args.road.now c.args.range.now c.args.den c.args.point.now c.in-Some.plan c.priced.result c.requires.accepted c.requires.fits c.requires.den
    c.requires.point plan c.priced.ensures.plan c.priced.ensures.cost c.priced.ensures.lowest
