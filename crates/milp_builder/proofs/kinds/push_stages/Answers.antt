use Rattle.road_types.specs.Columns.{stage_columns}
use Rattle.milp_builder.proofs.PointLemmas.{flat_step}
use Rattle.milp_builder.proofs.kinds.push_stages.Goals as goal

pub loop-before-preserved : goal.loop-before-preserved
loop-before-preserved c =
    flat_step (stage_columns c.args.road.now) c.loop-before.before c.args.kinds.now.items c.loop-before.kinds.items c.push_stage.new.kinds.items c.loop-before.invariant c.in_ok-push_stage.ensures
