use Rattle.std.proofs.Common.{[], ap, sym, ◌∙◌, ◌++◌}
use Rattle.road_types.specs.Numbered.{numbered}
use Rattle.milp_builder.proofs.PointLemmas.{stage_is, five_appends}
use Rattle.milp_builder.proofs.points.push_stage.Goals as goal

pub returns : goal.returns
returns c =
    let plan = c.args.plan.now in
    let t = c.args.stage in
    let init = c.args.point.now.items in
    five_appends init (numbered [] plan.cut t) (numbered [] plan.fill t) (numbered [] plan.right t) (numbered [] plan.left t) (numbered [] plan.roads t)
    c.push_row.new.point.items c.push_row-2.new.point.items c.push_row-3.new.point.items c.push_row-4.new.point.items c.push_row-5.new.point.items
    c.in_ok-push_row.ensures c.in_ok-push_row-2.ensures c.in_ok-push_row-3.ensures c.in_ok-push_row-4.ensures c.in_ok-push_row-5.ensures
    ∙ ap (λ x. init ++ x) (sym (stage_is c.args.road.now plan t c.requires.well_formed.counted.hops_count c.requires.plan c.requires.stage))
