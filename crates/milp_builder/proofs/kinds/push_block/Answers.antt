use Rattle.std.proofs.Common.{◌+◌, arith}
use Rattle.road_types.specs.declared.column.Column.TheVariants.{Opened}
use Rattle.milp_builder.proofs.PointLemmas.{list_step_from_one}
use Rattle.milp_builder.proofs.kinds.push_block.Goals as goal

pub loop-before-preserved : goal.loop-before-preserved
loop-before-preserved c =
    list_step_from_one (λ before. Opened c.args.block (before + 1)) c.loop-before.before c.args.kinds.now.items c.loop-before.kinds.items c.push.new.self.items
    (omega (arith, c.loop-before.auto.before)) c.loop-before.invariant c.in_ok-push.ensures.items
