use Rattle.road_types.specs.declared.column.Column.TheVariants.{Offset}
use Rattle.milp_builder.proofs.PointLemmas.{list_step}
use Rattle.milp_builder.proofs.kinds.push_offsets.Goals as goal

pub loop-before-preserved : goal.loop-before-preserved
loop-before-preserved c =
    list_step (λ i. Offset i) c.loop-before.before c.args.kinds.now.items c.loop-before.kinds.items c.push.new.self.items c.loop-before.invariant c.in_ok-push.ensures.items
