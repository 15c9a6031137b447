use Rattle.std.proofs.Common.{◌≡◌, ◌-◌, ◌*◌, ◌++◌, length, arith, ap, sym, ◌∙◌}
use Rattle.algebra.specs.Numbered.{numbered}
use Rattle.road_types.specs.Forms.{no_form}
use Rattle.road_types.specs.Road.{segment_count}
use Rattle.road_types.specs.RoadPrograms.{lines_in}
use Rattle.road_types.specs.SectionForms.{grade_end_forms, fixed_forms, volume_forms}
use Rattle.road_types.proofs.FormCounts.{length-grade_end_forms}
use Rattle.form_rows.specs.FormRows.{asked}
use Rattle.form_rows.proofs.PlaceLemmas.{first_at, behind_at}
use Rattle.section_rows.proofs.sides.limit_side.Goals as goal

pub returns-then-row-count : goal.returns-then-row-count
returns-then-row-count c =
    let road = c.args.road.now in
    c.grade_end_side.ensures ∙ sym (ap asked (first_at (grade_end_forms road) (fixed_forms road ++ volume_forms road (lines_in c.args.road.now c.args.ranges.now.heights)) c.args.row (omega (arith, length-grade_end_forms road))))

pub returns-else-row-count : goal.returns-else-row-count
returns-else-row-count c =
    let road = c.args.road.now in
    let size : length (grade_end_forms road) ≡ 2 * segment_count road = omega (arith, length-grade_end_forms road) in
    c.last_side.ensures ∙ sym (ap asked (behind_at (grade_end_forms road) (fixed_forms road ++ volume_forms road (lines_in c.args.road.now c.args.ranges.now.heights)) (2 * segment_count road) c.args.row size (omega arith)) ∙ ap (λ k. asked (numbered no_form (fixed_forms road ++ volume_forms road (lines_in c.args.road.now c.args.ranges.now.heights)) (c.args.row - k))) (omega arith))
