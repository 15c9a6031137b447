use Rattle.std.proofs.Common.{◌≡◌, ◌-◌, ◌++◌, length, arith, ap, sym, ◌∙◌}
use Rattle.algebra.specs.Numbered.{numbered}
use Rattle.road_types.specs.Forms.{no_form}
use Rattle.road_types.specs.Road.{section_count}
use Rattle.road_types.specs.RoadPrograms.{lines_in}
use Rattle.road_types.specs.SectionForms.{offset_forms, continuity_forms, grade_end_forms, fixed_forms, volume_forms}
use Rattle.road_types.proofs.FormCounts.{length-offset_forms}
use Rattle.form_rows.specs.FormRows.{asked}
use Rattle.form_rows.proofs.PlaceLemmas.{first_at, behind_at}
use Rattle.road_types.proofs.AcceptedRoad.{IsAccepted-from_fault}
use Rattle.section_rows.proofs.sides.section_side.Goals as goal

pub later_side-requires-clause-accepted : goal.later_side-requires-clause-accepted
later_side-requires-clause-accepted c = IsAccepted-from_fault c.args.road.now c.requires.accepted

pub returns-then-row-count : goal.returns-then-row-count
returns-then-row-count c =
    let road = c.args.road.now in
    c.offset_side.ensures ∙ sym (ap asked (first_at (offset_forms road) (continuity_forms road ++ (grade_end_forms road ++ (fixed_forms road ++ volume_forms road (lines_in c.args.road.now c.args.ranges.now.heights)))) c.args.row (omega (arith, length-offset_forms road))))

pub returns-else-row-count : goal.returns-else-row-count
returns-else-row-count c =
    let road = c.args.road.now in
    let size : length (offset_forms road) ≡ section_count road = omega (arith, length-offset_forms road) in
    c.later_side.ensures ∙ sym (ap asked (behind_at (offset_forms road) (continuity_forms road ++ (grade_end_forms road ++ (fixed_forms road ++ volume_forms road (lines_in c.args.road.now c.args.ranges.now.heights)))) (section_count road) c.args.row size (omega arith)) ∙ ap (λ k. asked (numbered no_form (continuity_forms road ++ (grade_end_forms road ++ (fixed_forms road ++ volume_forms road (lines_in c.args.road.now c.args.ranges.now.heights)))) (c.args.row - k))) (omega arith))
