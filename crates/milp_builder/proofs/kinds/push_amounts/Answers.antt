use Rattle.std.proofs.Common.{◌++◌, [], ◌∷◌, ap, ◌∙◌}
use Rattle.milp_builder.specs.inside.Amounts.{column_in}
use Rattle.milp_builder.proofs.PointLemmas.{list_step}
use Rattle.milp_builder.proofs.kinds.push_amounts.Goals as goal

pub loop-before-preserved : goal.loop-before-preserved
loop-before-preserved c =
    list_step (λ i. column_in c.args.amount i c.args.stage) c.loop-before.before c.args.kinds.now.items c.loop-before.kinds.items c.push.new.self.items c.loop-before.invariant
    (c.in_ok-push.ensures.items ∙ ap (λ k. c.loop-before.kinds.items ++ (k ∷ [])) c.column_in.ensures)
