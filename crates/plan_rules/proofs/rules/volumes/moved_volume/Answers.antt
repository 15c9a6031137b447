use Rattle.std.proofs.Common.{◌*◌, ◌^◌, ◌<◌, ◌∙◌, to_z, rules, FitsSigned, arith}
use Rattle.std.specs.Int.{w128}
use Rattle.std.proofs.lemmas.Int.{to_z-of_z}
use Rattle.plan_rules.specs.Rules.{fill_less_cut}
use Rattle.plan_rules.proofs.FitsLemmas.{amounts_of_fits}
use Rattle.plan_rules.proofs.AmountWidths.{fill_less_cut_width}
use Rattle.plan_rules.proofs.SumWidths.{sum_step_fits, sum_more}
use Rattle.plan_rules.proofs.rules.volumes.moved_volume.Goals as goal

pub plus-total-requires : goal.plus-total-requires
plus-total-requires c =
    let road = c.args.road.now in
    let plan = c.args.plan.now in
    let amounts = amounts_of_fits road plan c.requires.fits in
    let few : road.stages * (2 * 10 ^ 30) < 2 ^ 127 = omega (arith, c.requires.well_formed.counted.stages_to) in
    let fits = sum_step_fits (fill_less_cut c.args.plan.now c.args.number) (2 * 10 ^ 30) (road.stages) c.loop-before.before (λ t _ _. fill_less_cut_width plan amounts c.args.number t) c.loop-before-test.true few in
    let part : FitsSigned w128 c.fill_less_cut.result = search rules in
    simp to_z-of_z (rw (c.loop-before.invariant, c.fill_less_cut.ensures) fits)

pub loop-before-preserved : goal.loop-before-preserved
loop-before-preserved c =
    let part : FitsSigned w128 c.fill_less_cut.result = search rules in
    let total : FitsSigned w128 c.plus-total.result = search rules in
    to_z-of_z w128 _ total
    ∙ sum_more (fill_less_cut c.args.plan.now c.args.number) c.loop-before.before (to_z w128 c.loop-before.total-bits) c.fill_less_cut.result c.plus-total.result
    c.loop-before.invariant c.fill_less_cut.ensures (simp to_z-of_z at c.plus-total.ensures)

pub fill_less_cut-requires : goal.fill_less_cut-requires
fill_less_cut-requires c = amounts_of_fits c.args.road.now c.args.plan.now c.requires.fits
