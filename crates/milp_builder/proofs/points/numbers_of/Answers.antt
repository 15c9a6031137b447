use Rattle.std.proofs.Common.{ap, sym, ◌∙◌, ◌++◌, map}
use Rattle.algebra.specs.Lists.{list_to, flat_to}
use Rattle.road_types.specs.Road.{section_count, segment_count, block_count}
use Rattle.road_types.specs.Columns.{segment_columns, stage_columns, block_columns}
use Rattle.road_types.specs.declared.column.Column.TheVariants.{Offset}
use Rattle.road_points.specs.PlanPoints.{value_in}
use Rattle.milp_builder.proofs.PointLemmas.{four_appends, point_is}
use Rattle.milp_builder.proofs.points.numbers_of.Goals as goal

pub returns : goal.returns
returns c =
    let road = c.args.road.now in
    let v = value_in road c.args.plan.now in
    let segments = map v (flat_to segment_columns (segment_count road)) in
    four_appends
    segments
    (map v (list_to (λ i. Offset i) (section_count road)))
    (map v (flat_to (stage_columns road) road.stages))
    (map v (flat_to (block_columns road) (block_count road)))
    c.push_segments.new.point.items
    c.push_offsets.new.point.items
    c.push_stages.new.point.items
    c.push_blocks.new.point.items
    (c.in_ok-push_segments.ensures ∙ ap (λ x. x ++ segments) c.new-point.ensures.items)
    c.in_ok-push_offsets.ensures
    c.in_ok-push_stages.ensures
    c.in_ok-push_blocks.ensures
    ∙ sym (point_is road v)
