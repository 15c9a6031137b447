use Rattle.std.proofs.Common.{◌++◌, arith}
use Rattle.road_types.specs.SectionForms.{offset_forms, continuity_forms, grade_end_forms, fixed_forms, volume_forms}
use Rattle.road_types.specs.RoadPrograms.{lines_in}
use Rattle.road_types.proofs.FormCounts.{length-offset_forms, length-continuity_forms, length-grade_end_forms, length-fixed_forms}
use Rattle.form_rows.proofs.GrewLemmas.{grew_groups, group_count}
use Rattle.section_rows.proofs.rows.put_rows.Goals as goal

pub offset_rows-requires-clause-free : goal.offset_rows-requires-clause-free
offset_rows-requires-clause-free c = omega (arith)

pub offset_rows-requires-clause-width : goal.offset_rows-requires-clause-width
offset_rows-requires-clause-width c = omega (arith)

pub continuity_rows-requires-clause-free : goal.continuity_rows-requires-clause-free
continuity_rows-requires-clause-free c = omega (arith, group_count c.args.road.now (offset_forms c.args.road.now) c.args.rows.now c.offset_rows.new.rows c.offset_rows.ensures, length-offset_forms c.args.road.now, c.offset_rows.ensures.room)

pub continuity_rows-requires-clause-width : goal.continuity_rows-requires-clause-width
continuity_rows-requires-clause-width c = omega (arith, c.offset_rows.ensures.width)

pub grade_end_rows-requires-clause-free : goal.grade_end_rows-requires-clause-free
grade_end_rows-requires-clause-free c = omega (arith, group_count c.args.road.now (offset_forms c.args.road.now) c.args.rows.now c.offset_rows.new.rows c.offset_rows.ensures, group_count c.args.road.now (continuity_forms c.args.road.now) c.offset_rows.new.rows c.continuity_rows.new.rows c.continuity_rows.ensures, length-offset_forms c.args.road.now, length-continuity_forms c.args.road.now, c.offset_rows.ensures.room, c.continuity_rows.ensures.room)

pub grade_end_rows-requires-clause-width : goal.grade_end_rows-requires-clause-width
grade_end_rows-requires-clause-width c = omega (arith, c.offset_rows.ensures.width, c.continuity_rows.ensures.width)

pub fixed_rows-requires-clause-free : goal.fixed_rows-requires-clause-free
fixed_rows-requires-clause-free c = omega (arith, group_count c.args.road.now (offset_forms c.args.road.now) c.args.rows.now c.offset_rows.new.rows c.offset_rows.ensures, group_count c.args.road.now (continuity_forms c.args.road.now) c.offset_rows.new.rows c.continuity_rows.new.rows c.continuity_rows.ensures, group_count c.args.road.now (grade_end_forms c.args.road.now) c.continuity_rows.new.rows c.grade_end_rows.new.rows c.grade_end_rows.ensures, length-offset_forms c.args.road.now, length-continuity_forms c.args.road.now, length-grade_end_forms c.args.road.now, c.offset_rows.ensures.room, c.continuity_rows.ensures.room, c.grade_end_rows.ensures.room)

pub fixed_rows-requires-clause-width : goal.fixed_rows-requires-clause-width
fixed_rows-requires-clause-width c = omega (arith, c.offset_rows.ensures.width, c.continuity_rows.ensures.width, c.grade_end_rows.ensures.width)

pub volume_rows-requires-clause-free : goal.volume_rows-requires-clause-free
volume_rows-requires-clause-free c = omega (arith, group_count c.args.road.now (offset_forms c.args.road.now) c.args.rows.now c.offset_rows.new.rows c.offset_rows.ensures, group_count c.args.road.now (continuity_forms c.args.road.now) c.offset_rows.new.rows c.continuity_rows.new.rows c.continuity_rows.ensures, group_count c.args.road.now (grade_end_forms c.args.road.now) c.continuity_rows.new.rows c.grade_end_rows.new.rows c.grade_end_rows.ensures, group_count c.args.road.now (fixed_forms c.args.road.now) c.grade_end_rows.new.rows c.fixed_rows.new.rows c.fixed_rows.ensures, length-offset_forms c.args.road.now, length-continuity_forms c.args.road.now, length-grade_end_forms c.args.road.now, length-fixed_forms c.args.road.now, c.offset_rows.ensures.room, c.continuity_rows.ensures.room, c.grade_end_rows.ensures.room, c.fixed_rows.ensures.room)

pub volume_rows-requires-clause-width : goal.volume_rows-requires-clause-width
volume_rows-requires-clause-width c = omega (arith, c.offset_rows.ensures.width, c.continuity_rows.ensures.width, c.grade_end_rows.ensures.width, c.fixed_rows.ensures.width)

pub returns : goal.returns
returns c =
    let road = c.args.road.now in
    let g3 = grew_groups road (fixed_forms c.args.road.now) (volume_forms c.args.road.now (lines_in c.args.road.now c.args.ranges.now.heights)) c.grade_end_rows.new.rows c.fixed_rows.new.rows c.volume_rows.new.rows c.fixed_rows.ensures c.volume_rows.ensures in
    let g2 = grew_groups road (grade_end_forms c.args.road.now) (fixed_forms c.args.road.now ++ (volume_forms c.args.road.now (lines_in c.args.road.now c.args.ranges.now.heights))) c.continuity_rows.new.rows c.grade_end_rows.new.rows c.volume_rows.new.rows c.grade_end_rows.ensures g3 in
    let g1 = grew_groups road (continuity_forms c.args.road.now) (grade_end_forms c.args.road.now ++ (fixed_forms c.args.road.now ++ (volume_forms c.args.road.now (lines_in c.args.road.now c.args.ranges.now.heights)))) c.offset_rows.new.rows c.continuity_rows.new.rows c.volume_rows.new.rows c.continuity_rows.ensures g2 in
    let g0 = grew_groups road (offset_forms c.args.road.now) (continuity_forms c.args.road.now ++ (grade_end_forms c.args.road.now ++ (fixed_forms c.args.road.now ++ (volume_forms c.args.road.now (lines_in c.args.road.now c.args.ranges.now.heights))))) c.args.rows.now c.offset_rows.new.rows c.volume_rows.new.rows c.offset_rows.ensures g1 in
    g0
