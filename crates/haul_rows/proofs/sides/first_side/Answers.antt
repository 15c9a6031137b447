use Rattle.std.proofs.Common.{◌≡◌, ◌-◌, ◌*◌, ◌++◌, length, arith, ap, sym, ◌∙◌}
use Rattle.algebra.specs.Numbered.{numbered}
use Rattle.road_types.specs.Forms.{no_form}
use Rattle.road_types.specs.HaulForms.{balance_forms, pit_forms, transit_forms, stop_forms, order_forms}
use Rattle.road_types.specs.Road.{section_count}
use Rattle.road_types.proofs.FormCounts.{length-balance_forms}
use Rattle.form_rows.specs.FormRows.{asked}
use Rattle.form_rows.proofs.PlaceLemmas.{first_at, behind_at}
use Rattle.haul_rows.proofs.sides.first_side.Goals as goal

pub returns-then-row-count : goal.returns-then-row-count
returns-then-row-count c =
    let road = c.args.road.now in
    c.balance_side.ensures ∙ sym (ap asked (first_at (balance_forms road) (pit_forms road ++ (transit_forms road ++ (stop_forms road ++ order_forms road))) c.args.row (omega (arith, length-balance_forms road, c.balance_count-count.ensures))))

pub returns-else-row-count : goal.returns-else-row-count
returns-else-row-count c =
    let road = c.args.road.now in
    let size : length (balance_forms road) ≡ road.stages * section_count road = length-balance_forms road in
    c.later_side.ensures
    ∙ sym (ap asked (behind_at (balance_forms road) (pit_forms road ++ (transit_forms road ++ (stop_forms road ++ order_forms road))) (road.stages * section_count road) c.args.row size (omega (arith, c.balance_count-count.ensures)))
    ∙ ap (λ k. asked (numbered no_form (pit_forms road ++ (transit_forms road ++ (stop_forms road ++ order_forms road))) (c.args.row - k))) (omega (arith, c.balance_count-count.ensures)))
