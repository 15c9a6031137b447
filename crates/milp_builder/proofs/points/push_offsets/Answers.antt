use Rattle.std.proofs.Common.{ap, sym, ◌∙◌, ◌++◌, ◌+◌, map, [], ◌∷◌, rules, FitsSigned}
use Rattle.std.specs.Int.{w128}
use Rattle.std.proofs.lemmas.Int.{to_z-of_z}
use Rattle.algebra.specs.Lists.{list_to}
use Rattle.road_types.specs.declared.column.Column.TheVariants.{Offset}
use Rattle.road_points.specs.PlanPoints.{value_in}
use Rattle.milp_builder.proofs.PointLemmas.{append_step, map_list_more}
use Rattle.milp_builder.proofs.points.push_offsets.Goals as goal

pub loop-before-preserved : goal.loop-before-preserved
loop-before-preserved c =
    let v = value_in c.args.road.now c.args.plan.now in
    let n = c.loop-before.before in
    let init = c.args.point.now.items in
    let fits : FitsSigned w128 c.offset_of.result = search rules in
    let pushed = rw c.offset_of.ensures at (simp to_z-of_z at c.in_ok-push.ensures.items) in
    append_step init (map v (list_to (λ i. Offset i) n)) (v (Offset (n + 1)) ∷ [])
    c.loop-before.point.items c.push.new.self.items c.loop-before.invariant pushed
    ∙ ap (λ x. init ++ x) (sym (map_list_more v (λ i. Offset i) n))
