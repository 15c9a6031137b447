use Rattle.std.proofs.Common.{ap, sym, ◌∙◌, ◌++◌}
use Rattle.algebra.specs.Lists.{list_to, flat_to}
use Rattle.road_types.specs.Road.{section_count, segment_count, block_count}
use Rattle.road_types.specs.Columns.{segment_columns, stage_columns, block_columns}
use Rattle.road_types.specs.declared.column.Column.TheVariants.{Offset}
use Rattle.milp_builder.proofs.PointLemmas.{four_appends, columns_are}
use Rattle.milp_builder.proofs.kinds.columns_of.Goals as goal

pub returns : goal.returns
returns c =
    let road = c.args.road.now in
    let segments = flat_to segment_columns (segment_count road) in
    four_appends
    segments
    (list_to (λ i. Offset i) (section_count road))
    (flat_to (stage_columns road) road.stages)
    (flat_to (block_columns road) (block_count road))
    c.push_segments.new.kinds.items
    c.push_offsets.new.kinds.items
    c.push_stages.new.kinds.items
    c.push_blocks.new.kinds.items
    (c.in_ok-push_segments.ensures ∙ ap (λ x. x ++ segments) c.new-kinds.ensures.items)
    c.in_ok-push_offsets.ensures
    c.in_ok-push_stages.ensures
    c.in_ok-push_blocks.ensures
    ∙ sym (columns_are road)
