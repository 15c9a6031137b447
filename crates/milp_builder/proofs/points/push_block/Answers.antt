use Rattle.std.proofs.Common.{◌+◌, ◌-◌, ◌++◌, [], ◌∷◌, arith, ap, sym, ◌∙◌, map, rules, FitsSigned}
use Rattle.std.specs.Int.{w128}
use Rattle.std.proofs.lemmas.Int.{to_z-of_z}
use Rattle.algebra.specs.Lists.{list_to}
use Rattle.road_types.specs.declared.column.Column.TheVariants.{Opened}
use Rattle.road_points.specs.PlanPoints.{value_in}
use Rattle.milp_builder.proofs.PointLemmas.{append_step, map_list_from_one}
use Rattle.milp_builder.proofs.points.push_block.Goals as goal

pub loop-before-preserved : goal.loop-before-preserved
loop-before-preserved c =
    let v = value_in c.args.road.now c.args.plan.now in
    let k = c.args.block in
    let n = c.loop-before.before in
    let init = c.args.point.now.items in
    let fits : FitsSigned w128 c.opened_value.result = search rules in
    let pushed = rw c.opened_value.ensures at (simp to_z-of_z at c.in_ok-push.ensures.items) in
    append_step init (map v (list_to (λ before. Opened k (before + 1)) (n - 1))) (v (Opened k (n + 1)) ∷ [])
    c.loop-before.point.items c.push.new.self.items c.loop-before.invariant pushed
    ∙ ap (λ x. init ++ x) (sym (map_list_from_one v (λ before. Opened k (before + 1)) n (omega (arith, c.loop-before.auto.before))))
