use Rattle.std.proofs.Common.{◌≡◌, ◌-◌, ◌*◌, ◌++◌, length, arith, ap, sym, ◌∙◌}
use Rattle.algebra.specs.Numbered.{numbered}
use Rattle.road_types.specs.Forms.{no_form}
use Rattle.road_types.specs.HaulForms.{transit_forms, stop_forms, order_forms}
use Rattle.road_types.specs.Road.{block_count}
use Rattle.road_types.proofs.FormCounts.{length-transit_forms}
use Rattle.form_rows.specs.FormRows.{asked}
use Rattle.form_rows.proofs.PlaceLemmas.{first_at, behind_at}
use Rattle.haul_rows.proofs.sides.block_side.Goals as goal

pub returns-then-row-count : goal.returns-then-row-count
returns-then-row-count c =
    let road = c.args.road.now in
    c.transit_side.ensures ∙ sym (ap asked (first_at (transit_forms road) (stop_forms road ++ order_forms road) c.args.row (omega (arith, length-transit_forms road, c.transit_count-count.ensures))))

pub returns-else-row-count : goal.returns-else-row-count
returns-else-row-count c =
    let road = c.args.road.now in
    let size : length (transit_forms road) ≡ block_count road * road.stages = length-transit_forms road in
    c.last_side.ensures
    ∙ sym (ap asked (behind_at (transit_forms road) (stop_forms road ++ order_forms road) (block_count road * road.stages) c.args.row size (omega (arith, c.transit_count-count.ensures)))
    ∙ ap (λ k. asked (numbered no_form (stop_forms road ++ order_forms road) (c.args.row - k))) (omega (arith, c.transit_count-count.ensures)))
