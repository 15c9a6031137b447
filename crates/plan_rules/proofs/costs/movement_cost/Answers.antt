use Rattle.std.proofs.Common.{◌*◌, ◌^◌, ◌<◌, ◌≤◌, ◌∙◌, to_z, rules, FitsSigned, arith}
use Rattle.std.specs.Prelude.{unsigned_abs}
use Rattle.std.specs.Int.{w128}
use Rattle.std.proofs.lemmas.Int.{to_z-of_z}
use Rattle.plan_rules.specs.Costs.{stage_cost}
use Rattle.plan_rules.proofs.CostWidths.{stage_cost_width}
use Rattle.plan_rules.proofs.SumWidths.{sum_step_fits, sum_more, sum_width}
use Rattle.plan_rules.proofs.costs.movement_cost.Goals as goal

pub plus-total-requires : goal.plus-total-requires
plus-total-requires c =
    let road = c.args.road.now in
    let plan = c.args.plan.now in
    let few : road.stages * (12 * 10 ^ 21 * 2 ^ 40) < 2 ^ 127 = omega (arith, c.requires.well_formed.counted.stages_to) in
    let fits = sum_step_fits (stage_cost road plan c.args.movement) (12 * 10 ^ 21 * 2 ^ 40) (road.stages) c.loop-before.before (λ t low high. stage_cost_width road plan c.requires.well_formed c.requires.payable c.args.movement t (record { from_one = low; at_most = high })) c.loop-before-test.true few in
    let part : FitsSigned w128 c.stage_cost.result = search rules in
    simp to_z-of_z (rw (c.loop-before.invariant, c.stage_cost.ensures) fits)

pub loop-before-preserved : goal.loop-before-preserved
loop-before-preserved c =
    let part : FitsSigned w128 c.stage_cost.result = search rules in
    let total : FitsSigned w128 c.plus-total.result = search rules in
    to_z-of_z w128 _ total
    ∙ sum_more (stage_cost c.args.road.now c.args.plan.now c.args.movement) c.loop-before.before (to_z w128 c.loop-before.total-bits) c.stage_cost.result c.plus-total.result
    c.loop-before.invariant c.stage_cost.ensures (simp to_z-of_z at c.plus-total.ensures)

pub returns-clause-width : goal.returns-clause-width
returns-clause-width c =
    let road = c.args.road.now in
    let plan = c.args.plan.now in
    let width = sum_width (stage_cost road plan c.args.movement) (12 * 10 ^ 21 * 2 ^ 40) (road.stages) c.loop-before.before (λ t low high. stage_cost_width road plan c.requires.well_formed c.requires.payable c.args.movement t (record { from_one = low; at_most = high })) (omega arith) in
    let total : unsigned_abs (to_z w128 c.loop-before.total-bits) ≤ road.stages * (12 * 10 ^ 21 * 2 ^ 40) = rw c.loop-before.invariant width in
    omega (arith, c.requires.well_formed.counted.stages_to)
