use Rattle.std.proofs.Common.{◌≡◌, ◌-◌, ◌*◌, length, arith, ap, sym, ◌∙◌}
use Rattle.algebra.specs.Numbered.{numbered}
use Rattle.road_types.specs.Forms.{no_form}
use Rattle.road_types.specs.Road.{fixed_count}
use Rattle.road_types.specs.RoadPrograms.{lines_in}
use Rattle.road_types.specs.SectionForms.{fixed_forms, volume_forms}
use Rattle.road_types.proofs.FormCounts.{length-fixed_forms}
use Rattle.form_rows.specs.FormRows.{asked}
use Rattle.form_rows.proofs.PlaceLemmas.{first_at, behind_at}
use Rattle.section_rows.proofs.sides.last_side.Goals as goal

pub returns-then-row-count : goal.returns-then-row-count
returns-then-row-count c =
    let road = c.args.road.now in
    c.fixed_side.ensures ∙ sym (ap asked (first_at (fixed_forms road) (volume_forms road (lines_in c.args.road.now c.args.ranges.now.heights)) c.args.row (omega (arith, length-fixed_forms road))))

pub returns-else-row-count : goal.returns-else-row-count
returns-else-row-count c =
    let road = c.args.road.now in
    let size : length (fixed_forms road) ≡ 2 * fixed_count road = omega (arith, length-fixed_forms road) in
    c.volume_side.ensures ∙ sym (ap asked (behind_at (fixed_forms road) (volume_forms road (lines_in c.args.road.now c.args.ranges.now.heights)) (2 * fixed_count road) c.args.row size (omega arith)) ∙ ap (λ k. asked (numbered no_form (volume_forms road (lines_in c.args.road.now c.args.ranges.now.heights)) (c.args.row - k))) (omega arith))
