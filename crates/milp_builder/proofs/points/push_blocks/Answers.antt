use Rattle.std.proofs.Common.{ap, sym, ◌∙◌, ◌++◌, ◌+◌, map}
use Rattle.algebra.specs.Lists.{flat_to}
use Rattle.road_types.specs.Columns.{block_columns}
use Rattle.road_points.specs.PlanPoints.{value_in}
use Rattle.milp_builder.proofs.PointLemmas.{append_step, map_flat_more}
use Rattle.milp_builder.proofs.points.push_blocks.Goals as goal

pub loop-before-preserved : goal.loop-before-preserved
loop-before-preserved c =
    let road = c.args.road.now in
    let v = value_in road c.args.plan.now in
    let n = c.loop-before.before in
    let init = c.args.point.now.items in
    append_step init (map v (flat_to (block_columns road) n)) (map v (block_columns road (n + 1)))
    c.loop-before.point.items c.push_block.new.point.items c.loop-before.invariant c.in_ok-push_block.ensures
    ∙ ap (λ x. init ++ x) (sym (map_flat_more v (block_columns road) n))
