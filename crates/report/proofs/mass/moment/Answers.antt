use Rattle.std.proofs.Common.{◌*◌, ◌^◌, ◌<◌, ◌≤◌, ◌∙◌, to_z, rules, FitsSigned, arith}
use Rattle.std.specs.Prelude.{unsigned_abs}
use Rattle.std.specs.Int.{w128}
use Rattle.std.proofs.lemmas.Int.{to_z-of_z}
use Rattle.road_types.specs.Road.{hop_count}
use Rattle.plan_rules.proofs.SumWidths.{sum_step_fits, sum_more, sum_width}
use Rattle.report.specs.Mass.{hop_moment}
use Rattle.report.proofs.MassLemmas.{moment_small, few_hops_at_all}
use Rattle.report.proofs.mass.moment.Goals as goal

pub plus-total-requires : goal.plus-total-requires
plus-total-requires c =
    let road = c.args.road.now in
    let plan = c.args.plan.now in
    let few : hop_count road * (2 * 10 ^ 22 * 2 ^ 40) < 2 ^ 127 = omega (arith, few_hops_at_all road c.requires.well_formed) in
    let fits = sum_step_fits (hop_moment road plan c.args.stage) (2 * 10 ^ 22 * 2 ^ 40) (hop_count road) c.loop-before.before
    (λ h low high. moment_small road plan c.requires.well_formed c.requires.payable c.args.stage h c.requires.stage (record { from_one = low; at_most = high })) (omega arith) few in
    let part : FitsSigned w128 c.hop_moment.result = search rules in
    simp to_z-of_z (rw (c.loop-before.invariant, c.hop_moment.ensures) fits)

pub loop-before-preserved : goal.loop-before-preserved
loop-before-preserved c =
    let part : FitsSigned w128 c.hop_moment.result = search rules in
    let total : FitsSigned w128 c.plus-total.result = search rules in
    to_z-of_z w128 _ total
    ∙ sum_more (hop_moment c.args.road.now c.args.plan.now c.args.stage) c.loop-before.before (to_z w128 c.loop-before.total-bits) c.hop_moment.result c.plus-total.result
    c.loop-before.invariant c.hop_moment.ensures (simp to_z-of_z at c.plus-total.ensures)

pub returns-clause-width : goal.returns-clause-width
returns-clause-width c =
    let road = c.args.road.now in
    let plan = c.args.plan.now in
    let width = sum_width (hop_moment road plan c.args.stage) (2 * 10 ^ 22 * 2 ^ 40) (hop_count road) c.loop-before.before
    (λ h low high. moment_small road plan c.requires.well_formed c.requires.payable c.args.stage h c.requires.stage (record { from_one = low; at_most = high })) (omega arith) in
    let total : unsigned_abs (to_z w128 c.loop-before.total-bits) ≤ hop_count road * (2 * 10 ^ 22 * 2 ^ 40) = rw c.loop-before.invariant width in
    omega (arith, few_hops_at_all road c.requires.well_formed)
