use Rattle.std.proofs.Common.{◌≡◌, ◌-◌, ◌*◌, length, arith, ap, sym, ◌∙◌}
use Rattle.algebra.specs.Numbered.{numbered}
use Rattle.road_types.specs.Forms.{no_form}
use Rattle.road_types.specs.HaulForms.{stop_forms, order_forms}
use Rattle.road_types.specs.Road.{block_count}
use Rattle.road_types.proofs.FormCounts.{length-stop_forms}
use Rattle.form_rows.specs.FormRows.{asked}
use Rattle.form_rows.proofs.PlaceLemmas.{first_at, behind_at}
use Rattle.haul_rows.proofs.sides.last_side.Goals as goal

pub returns-then-row-count : goal.returns-then-row-count
returns-then-row-count c =
    let road = c.args.road.now in
    c.stop_side.ensures ∙ sym (ap asked (first_at (stop_forms road) (order_forms road) c.args.row (omega (arith, length-stop_forms road, c.stop_count-count.ensures))))

pub returns-else-row-count : goal.returns-else-row-count
returns-else-row-count c =
    let road = c.args.road.now in
    let size : length (stop_forms road) ≡ block_count road * (2 * (road.stages - 1)) = length-stop_forms road in
    c.order_side.ensures
    ∙ sym (ap asked (behind_at (stop_forms road) (order_forms road) (block_count road * (2 * (road.stages - 1))) c.args.row size (omega (arith, c.stop_count-count.ensures)))
    ∙ ap (λ k. asked (numbered no_form (order_forms road) (c.args.row - k))) (omega (arith, c.stop_count-count.ensures)))
