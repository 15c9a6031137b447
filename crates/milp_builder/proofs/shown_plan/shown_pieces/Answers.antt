use Rattle.std.proofs.Common.{◌+◌, [], ◌∷◌, ◌++◌, ap, sym, ◌∙◌}
use Rattle.road_points.specs.Shown.{shown}
use Rattle.road_points.specs.ShownPlan.{piece_at}
use Rattle.milp_builder.proofs.PointLemmas.{list_more}
use Rattle.milp_builder.proofs.shown_plan.shown_pieces.Goals as goal

pub loop-before-preserved : goal.loop-before-preserved
loop-before-preserved c =
    let f = piece_at (shown c.args.road.now c.args.point.now) in
    let n = c.loop-before.before in
    c.in_ok-push.ensures.items
    ∙ ap (λ p. c.loop-before.pieces.items ++ (p ∷ [])) c.shown_piece.ensures
    ∙ ap (λ x. x ++ (f (n + 1) ∷ [])) c.loop-before.invariant
    ∙ sym (list_more f n)
