use Rattle.std.proofs.Common.{ap, sym, ◌∙◌, ◌++◌, ◌+◌, map}
use Rattle.algebra.specs.Lists.{flat_to}
use Rattle.road_types.specs.Columns.{stage_columns}
use Rattle.road_points.specs.PlanPoints.{value_in}
use Rattle.milp_builder.proofs.PointLemmas.{append_step, map_flat_more}
use Rattle.milp_builder.proofs.points.push_stages.Goals as goal

pub loop-before-preserved : goal.loop-before-preserved
loop-before-preserved c =
    let road = c.args.road.now in
    let plan = c.args.plan.now in
    let n = c.loop-before.before in
    let init = c.args.point.now.items in
    append_step init (map (value_in road plan) (flat_to (stage_columns road) n)) (map (value_in road plan) (stage_columns road (n + 1)))
    c.loop-before.point.items c.push_stage.new.point.items c.loop-before.invariant c.in_ok-push_stage.ensures
    ∙ ap (λ x. init ++ x) (sym (map_flat_more (value_in road plan) (stage_columns road) n))
