use Rattle.std.proofs.Common.{◌*◌, ◌^◌, ◌<◌, ◌∙◌, to_z, rules, FitsSigned, arith}
use Rattle.std.specs.Int.{w128}
use Rattle.std.proofs.lemmas.Int.{to_z-of_z}
use Rattle.plan_rules.specs.Rules.{pit_share}
use Rattle.road_types.specs.Road.{access_count}
use Rattle.plan_rules.proofs.FitsLemmas.{amounts_of_fits}
use Rattle.plan_rules.proofs.AmountWidths.{pit_share_width}
use Rattle.plan_rules.proofs.SumWidths.{sum_step_fits, sum_more}
use Rattle.plan_rules.proofs.rules.caps.pit_total.Goals as goal

pub plus-total-requires : goal.plus-total-requires
plus-total-requires c =
    let road = c.args.road.now in
    let plan = c.args.plan.now in
    let amounts = amounts_of_fits road plan c.requires.fits in
    let few : access_count road * (4 * 10 ^ 30) < 2 ^ 127 = omega (arith, c.requires.well_formed.counted.roads_to) in
    let fits = sum_step_fits (pit_share c.args.road.now c.args.plan.now c.args.number) (4 * 10 ^ 30) (access_count road) c.loop-before.before (λ q _ _. pit_share_width road plan amounts c.requires.well_formed.counted.stages_to c.args.number q) (omega arith) few in
    let part : FitsSigned w128 c.pit_share.result = search rules in
    simp to_z-of_z (rw (c.loop-before.invariant, c.pit_share.ensures) fits)

pub loop-before-preserved : goal.loop-before-preserved
loop-before-preserved c =
    let part : FitsSigned w128 c.pit_share.result = search rules in
    let total : FitsSigned w128 c.plus-total.result = search rules in
    to_z-of_z w128 _ total
    ∙ sum_more (pit_share c.args.road.now c.args.plan.now c.args.number) c.loop-before.before (to_z w128 c.loop-before.total-bits) c.pit_share.result c.plus-total.result
    c.loop-before.invariant c.pit_share.ensures (simp to_z-of_z at c.plus-total.ensures)
