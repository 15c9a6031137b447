use Rattle.std.proofs.Common.{◌*◌, ◌^◌, ◌<◌, ◌∙◌, to_z, rules, FitsSigned, arith}
use Rattle.std.specs.Int.{w128}
use Rattle.std.proofs.lemmas.Int.{to_z-of_z}
use Rattle.plan_rules.specs.Costs.{entry_count, entry_cost}
use Rattle.plan_rules.proofs.CostWidths.{entry_cost_width, few_entries}
use Rattle.plan_rules.proofs.SumWidths.{sum_step_fits, sum_more}
use Rattle.plan_rules.proofs.costs.stage_cost.Goals as goal

pub plus-total-requires : goal.plus-total-requires
plus-total-requires c =
    let road = c.args.road.now in
    let plan = c.args.plan.now in
    let m = c.args.movement in
    let few : entry_count road m * (2 * 10 ^ 20 * 2 ^ 40) < 2 ^ 127 = omega (arith, few_entries road c.requires.well_formed m) in
    let fits = sum_step_fits (entry_cost road plan m c.args.stage) (2 * 10 ^ 20 * 2 ^ 40) (entry_count road m) c.loop-before.before (λ i low high. entry_cost_width road plan c.requires.well_formed c.requires.payable m c.args.stage i c.requires.stage (record { from_one = low; at_most = high })) (omega arith) few in
    let part : FitsSigned w128 c.entry_cost.result = search rules in
    simp to_z-of_z (rw (c.loop-before.invariant, c.entry_cost.ensures) fits)

pub loop-before-preserved : goal.loop-before-preserved
loop-before-preserved c =
    let part : FitsSigned w128 c.entry_cost.result = search rules in
    let total : FitsSigned w128 c.plus-total.result = search rules in
    to_z-of_z w128 _ total
    ∙ sum_more (entry_cost c.args.road.now c.args.plan.now c.args.movement c.args.stage) c.loop-before.before (to_z w128 c.loop-before.total-bits) c.entry_cost.result c.plus-total.result
    c.loop-before.invariant c.entry_cost.ensures (simp to_z-of_z at c.plus-total.ensures)
