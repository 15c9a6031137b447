use Rattle.std.proofs.Common.{◌*◌, ◌^◌, ◌<◌, ◌∙◌, ℕ, to_z, rules, FitsSigned, arith}
use Rattle.std.specs.Prelude.{ℤ, ◌-ℤ◌}
use Rattle.std.specs.Int.{w128}
use Rattle.std.proofs.lemmas.Int.{to_z-of_z}
use Rattle.plan_rules.proofs.SumWidths.{sum_step_fits, sum_more}
use Rattle.road_types.specs.declared.column.Column.TheVariants.{Cut, Fill}
use Rattle.road_points.specs.Shown.{shown}
use Rattle.milp_builder.proofs.ComparingLemmas.{moved_width}
use Rattle.milp_builder.proofs.showing.moved_volume.Goals as goal

pub plus-total-requires : goal.plus-total-requires
plus-total-requires c =
    let road = c.args.road.now in
    let point = c.args.point.now in
    let f : ℕ → ℤ = λ t. shown road point (Fill c.args.section t) -ℤ shown road point (Cut c.args.section t) in
    let few : road.stages * 2 ^ 120 < 2 ^ 127 = omega (arith, c.requires.well_formed.counted.stages_to) in
    let fits = sum_step_fits f (2 ^ 120) road.stages c.loop-before.before (λ t _ _. moved_width road point c.requires.small c.args.section t) c.loop-before-test.true few in
    let part : FitsSigned w128 c.moved_in.result = search rules in
    simp to_z-of_z (rw (c.loop-before.invariant, c.moved_in.ensures) fits)

pub loop-before-preserved : goal.loop-before-preserved
loop-before-preserved c =
    let road = c.args.road.now in
    let point = c.args.point.now in
    let f : ℕ → ℤ = λ t. shown road point (Fill c.args.section t) -ℤ shown road point (Cut c.args.section t) in
    let part : FitsSigned w128 c.moved_in.result = search rules in
    let total : FitsSigned w128 c.plus-total.result = search rules in
    to_z-of_z w128 _ total
    ∙ sum_more f c.loop-before.before (to_z w128 c.loop-before.total-bits) c.moved_in.result c.plus-total.result
    c.loop-before.invariant c.moved_in.ensures (simp to_z-of_z at c.plus-total.ensures)
