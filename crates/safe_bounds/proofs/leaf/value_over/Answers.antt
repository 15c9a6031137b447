use Rattle.std.proofs.Common.{arith, rules, ◌+◌, ◌<◌, get_or}
use Rattle.std.specs.Prelude.{pos, FitsSigned}
use Rattle.std.specs.Int.{w128}
use Rattle.std.proofs.lemmas.Int.{to_z-of_z}
use Rattle.programs.specs.Programs.{column_count}
use Rattle.safe_bounds.specs.Values.{column_value, rights_value}
use Rattle.safe_bounds.proofs.ColumnsLemmas.{reduced_is, share_is, reach_left, next_part, part_small, part_fits}
use Rattle.safe_bounds.proofs.leaf.value_over.Goals as goal

pub least_share-requires-clause-width : goal.least_share-requires-clause-width
least_share-requires-clause-width c =
    let scale : FitsSigned w128 c.args.scale = c.ranges.scale in
    let at : FitsSigned w128 (get_or c.draw_rows-value.new.drawn c.loop-place.place (pos 0)) = search rules in
    let reduced : FitsSigned w128 c.reduced_cost-reduced.result = search rules in
    let l : c.loop-place.place < column_count c.args.milp.now = omega arith in
    let value = simp to_z-of_z at c.reduced_cost-reduced.ensures.value in
    let is_reduced = reduced_is c.args.milp.now c.args.scale c.args.mults.now c.draw_rows-value.new.drawn c.loop-place.place c.reduced_cost-reduced.result c.draw_rows-value.ensures.drawn l value in
    simp to_z-of_z (reach_left c.args.milp.now c.args.scale c.args.mults.now c.loop-place.place c.reduced_cost-reduced.result c.requires.scale c.requires.mults.within c.requires.limits.light l is_reduced)

pub plus-value-requires : goal.plus-value-requires
plus-value-requires c =
    let scale : FitsSigned w128 c.args.scale = c.ranges.scale in
    let at : FitsSigned w128 (get_or c.draw_rows-value.new.drawn c.loop-place.place (pos 0)) = search rules in
    let reduced : FitsSigned w128 c.reduced_cost-reduced.result = search rules in
    let added : FitsSigned w128 c.least_share.result = search rules in
    let l : c.loop-place.place < column_count c.args.milp.now = omega arith in
    let value = simp to_z-of_z at c.reduced_cost-reduced.ensures.value in
    let is_reduced = reduced_is c.args.milp.now c.args.scale c.args.mults.now c.draw_rows-value.new.drawn c.loop-place.place c.reduced_cost-reduced.result c.draw_rows-value.ensures.drawn l value in
    let share = simp to_z-of_z at c.least_share.ensures in
    let is_share = share_is c.args.milp.now c.args.scale c.args.mults.now (c.loop-place.place + 1) c.reduced_cost-reduced.result c.least_share.result is_reduced share in
    let so_far = simp to_z-of_z at c.loop-place.invariant in
    simp to_z-of_z (part_fits c.args.milp.now c.args.scale c.args.mults.now c.loop-place.place _ c.least_share.result c.requires.scale c.requires.mults.within c.requires.limits.light l so_far is_share)

pub loop-place-preserved : goal.loop-place-preserved
loop-place-preserved c =
    let scale : FitsSigned w128 c.args.scale = c.ranges.scale in
    let at : FitsSigned w128 (get_or c.draw_rows-value.new.drawn c.loop-place.place (pos 0)) = search rules in
    let reduced : FitsSigned w128 c.reduced_cost-reduced.result = search rules in
    let added : FitsSigned w128 c.least_share.result = search rules in
    let l : c.loop-place.place < column_count c.args.milp.now = omega arith in
    let value = simp to_z-of_z at c.reduced_cost-reduced.ensures.value in
    let is_reduced = reduced_is c.args.milp.now c.args.scale c.args.mults.now c.draw_rows-value.new.drawn c.loop-place.place c.reduced_cost-reduced.result c.draw_rows-value.ensures.drawn l value in
    let share = simp to_z-of_z at c.least_share.ensures in
    let is_share = share_is c.args.milp.now c.args.scale c.args.mults.now (c.loop-place.place + 1) c.reduced_cost-reduced.result c.least_share.result is_reduced share in
    let so_far = simp to_z-of_z at c.loop-place.invariant in
    let total : FitsSigned w128 c.plus-value.result = search rules in
    let sum = simp to_z-of_z at c.plus-value.ensures in
    simp to_z-of_z (next_part (column_value c.args.milp.now c.args.scale c.args.mults.now) (rights_value c.args.milp.now.rows c.args.mults.now) _ c.least_share.result c.plus-value.result c.loop-place.place so_far is_share sum)

pub returns-clause-width : goal.returns-clause-width
returns-clause-width c =
    let scale : FitsSigned w128 c.args.scale = c.ranges.scale in
    let so_far = simp to_z-of_z at c.loop-place.invariant in
    part_small c.args.milp.now c.args.scale c.args.mults.now c.loop-place.place _ c.requires.scale c.requires.mults.within c.requires.limits.light (omega arith) so_far
