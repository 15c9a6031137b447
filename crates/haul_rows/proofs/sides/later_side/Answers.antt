use Rattle.std.proofs.Common.{◌≡◌, ◌-◌, ◌++◌, length, arith, ap, sym, ◌∙◌}
use Rattle.algebra.specs.Numbered.{numbered}
use Rattle.road_types.specs.Forms.{no_form}
use Rattle.road_types.specs.HaulForms.{pit_forms, transit_forms, stop_forms, order_forms}
use Rattle.road_types.specs.Road.{pit_count}
use Rattle.road_types.proofs.FormCounts.{length-pit_forms}
use Rattle.form_rows.specs.FormRows.{asked}
use Rattle.form_rows.proofs.PlaceLemmas.{first_at, behind_at}
use Rattle.haul_rows.proofs.sides.later_side.Goals as goal

pub returns-then-row-count : goal.returns-then-row-count
returns-then-row-count c =
    let road = c.args.road.now in
    c.pit_side.ensures ∙ sym (ap asked (first_at (pit_forms road) (transit_forms road ++ (stop_forms road ++ order_forms road)) c.args.row (omega (arith, length-pit_forms road))))

pub returns-else-row-count : goal.returns-else-row-count
returns-else-row-count c =
    let road = c.args.road.now in
    let size : length (pit_forms road) ≡ pit_count road = length-pit_forms road in
    c.block_side.ensures
    ∙ sym (ap asked (behind_at (pit_forms road) (transit_forms road ++ (stop_forms road ++ order_forms road)) (pit_count road) c.args.row size (omega (arith)))
    ∙ ap (λ k. asked (numbered no_form (transit_forms road ++ (stop_forms road ++ order_forms road)) (c.args.row - k))) (omega (arith)))
