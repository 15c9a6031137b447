use Rattle.std.proofs.Common.{arith, rules, ◌≡◌, ◌∙◌, ◌<◌, length, get_or}
use Rattle.std.specs.Prelude.{pos, FitsSigned}
use Rattle.std.specs.Int.{w128}
use Rattle.std.proofs.lemmas.Int.{to_z-of_z}
use Rattle.programs.specs.Programs.{column_count}
use Rattle.safe_bounds.proofs.TakenLemmas.{none_taken, narrow_next, next_taken}
use Rattle.safe_bounds.proofs.leaf.reduce_within.Goals as goal

pub loop-place-init : goal.loop-place-init
loop-place-init c =
    let scale : FitsSigned w128 c.args.scale = c.ranges.scale in
    let size : length c.draw_rows.new.drawn ≡ column_count c.args.milp.now = c.draw_rows.auto.drawn ∙ c.fill.ensures.len ∙ c.requires.columns in
    simp to_z-of_z (none_taken c.args.milp.now c.args.scale c.args.mults.now c.draw_rows.new.drawn size c.draw_rows.ensures.drawn c.draw_rows.ensures.width)

pub reduced_cost-requires-clause-drawn : goal.reduced_cost-requires-clause-drawn
reduced_cost-requires-clause-drawn c =
    let scale : FitsSigned w128 c.args.scale = c.ranges.scale in
    let at : FitsSigned w128 (get_or c.loop-place.reduced c.loop-place.place (pos 0)) = search rules in
    let l : c.loop-place.place < column_count c.args.milp.now = omega (arith, c.requires.count) in
    let so_far = simp to_z-of_z at c.loop-place.invariant in
    simp to_z-of_z (narrow_next c.args.milp.now c.args.scale c.args.mults.now c.loop-place.reduced c.loop-place.place l so_far)

pub loop-place-preserved : goal.loop-place-preserved
loop-place-preserved c =
    let scale : FitsSigned w128 c.args.scale = c.ranges.scale in
    let at : FitsSigned w128 (get_or c.loop-place.reduced c.loop-place.place (pos 0)) = search rules in
    let taken : FitsSigned w128 c.reduced_cost.result = search rules in
    let l : c.loop-place.place < column_count c.args.milp.now = omega (arith, c.requires.count) in
    let so_far = simp to_z-of_z at c.loop-place.invariant in
    let value = simp to_z-of_z at c.reduced_cost.ensures.value in
    simp to_z-of_z (next_taken c.args.milp.now c.args.scale c.args.mults.now c.loop-place.reduced c.loop-place.place c.reduced_cost.result l so_far value c.reduced_cost.ensures.width)
