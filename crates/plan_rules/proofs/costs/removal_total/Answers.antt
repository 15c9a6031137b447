use Rattle.std.proofs.Common.{◌*◌, ◌^◌, ◌<◌, ◌≤◌, ◌∙◌, to_z, rules, FitsSigned, arith}
use Rattle.std.specs.Prelude.{unsigned_abs}
use Rattle.std.specs.Int.{w128}
use Rattle.std.proofs.lemmas.Int.{to_z-of_z}
use Rattle.plan_rules.specs.Costs.{removal_cost}
use Rattle.road_types.specs.Road.{block_count}
use Rattle.plan_rules.proofs.CostWidths.{removal_cost_width}
use Rattle.plan_rules.proofs.SumWidths.{sum_step_fits, sum_more, sum_width}
use Rattle.plan_rules.proofs.costs.removal_total.Goals as goal

pub plus-total-requires : goal.plus-total-requires
plus-total-requires c =
    let road = c.args.road.now in
    let plan = c.args.plan.now in
    let few : block_count road * (2 ^ 60) < 2 ^ 127 = omega (arith, c.requires.well_formed.counted.blocks_to) in
    let fits = sum_step_fits (removal_cost c.args.road.now c.args.plan.now) (2 ^ 60) (block_count road) c.loop-before.before (λ k low high. removal_cost_width road plan c.requires.well_formed (c.requires.fits.den) k (record { from_one = low; at_most = high })) (omega arith) few in
    let part : FitsSigned w128 c.removal_cost.result = search rules in
    simp to_z-of_z (rw (c.loop-before.invariant, c.removal_cost.ensures) fits)

pub loop-before-preserved : goal.loop-before-preserved
loop-before-preserved c =
    let part : FitsSigned w128 c.removal_cost.result = search rules in
    let total : FitsSigned w128 c.plus-total.result = search rules in
    to_z-of_z w128 _ total
    ∙ sum_more (removal_cost c.args.road.now c.args.plan.now) c.loop-before.before (to_z w128 c.loop-before.total-bits) c.removal_cost.result c.plus-total.result
    c.loop-before.invariant c.removal_cost.ensures (simp to_z-of_z at c.plus-total.ensures)

pub returns-clause-width : goal.returns-clause-width
returns-clause-width c =
    let road = c.args.road.now in
    let plan = c.args.plan.now in
    let width = sum_width (removal_cost c.args.road.now c.args.plan.now) (2 ^ 60) (block_count road) c.loop-before.before (λ k low high. removal_cost_width road plan c.requires.well_formed (c.requires.fits.den) k (record { from_one = low; at_most = high })) (omega arith) in
    let total : unsigned_abs (to_z w128 c.loop-before.total-bits) ≤ block_count road * (2 ^ 60) = rw c.loop-before.invariant width in
    omega (arith, c.requires.well_formed.counted.blocks_to)
