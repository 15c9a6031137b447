use Rattle.std.proofs.Common.{◌+◌, [], ◌∷◌, ◌++◌, ap, sym, ◌∙◌}
use Rattle.road_points.specs.Shown.{shown}
use Rattle.road_points.specs.ShownPlan.{opening_at}
use Rattle.milp_builder.proofs.PointLemmas.{list_more}
use Rattle.milp_builder.proofs.shown_plan.shown_openings.Goals as goal

pub loop-before-preserved : goal.loop-before-preserved
loop-before-preserved c =
    let f = opening_at c.args.road.now (shown c.args.road.now c.args.point.now) in
    let n = c.loop-before.before in
    c.in_ok-push.ensures.items
    ∙ ap (λ k. c.loop-before.opens.items ++ (k ∷ [])) c.shown_opening.ensures
    ∙ ap (λ x. x ++ (f (n + 1) ∷ [])) c.loop-before.invariant
    ∙ sym (list_more f n)
