use Rattle.std.proofs.Common.{◌*◌, ◌^◌, ◌<◌, ◌∙◌, to_z, rules, FitsSigned, arith}
use Rattle.std.specs.Int.{w128}
use Rattle.std.proofs.lemmas.Int.{to_z-of_z}
use Rattle.plan_rules.specs.Plans.{amount}
use Rattle.plan_rules.proofs.FitsLemmas.{amounts_of_fits}
use Rattle.plan_rules.proofs.SumWidths.{sum_step_fits, sum_more}
use Rattle.plan_rules.proofs.rules.caps.access_amount.Goals as goal

pub plus-total-requires : goal.plus-total-requires
plus-total-requires c =
    let road = c.args.road.now in
    let plan = c.args.plan.now in
    let amounts = amounts_of_fits road plan c.requires.fits in
    let few : road.stages * (10 ^ 30) < 2 ^ 127 = omega (arith, c.requires.well_formed.counted.stages_to) in
    let fits = sum_step_fits (λ t. amount c.args.plan.now.roads t c.args.access) (10 ^ 30) (road.stages) c.loop-before.before (λ t _ _. omega (arith, amounts.roads t c.args.access)) c.loop-before-test.true few in
    let part : FitsSigned w128 c.amount_at.result = search rules in
    simp to_z-of_z (rw (c.loop-before.invariant, c.amount_at.ensures) fits)

pub loop-before-preserved : goal.loop-before-preserved
loop-before-preserved c =
    let part : FitsSigned w128 c.amount_at.result = search rules in
    let total : FitsSigned w128 c.plus-total.result = search rules in
    to_z-of_z w128 _ total
    ∙ sum_more (λ t. amount c.args.plan.now.roads t c.args.access) c.loop-before.before (to_z w128 c.loop-before.total-bits) c.amount_at.result c.plus-total.result
    c.loop-before.invariant c.amount_at.ensures (simp to_z-of_z at c.plus-total.ensures)
