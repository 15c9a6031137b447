use Rattle.std.proofs.Common.{◌≡◌, ℕ, ◌+◌, List, [], ◌∷◌, ◌++◌, arith, ap, sym, ◌∙◌}
use Rattle.std.specs.Prelude.{ℤ}
use Rattle.algebra.specs.Lists.{list_to}
use Rattle.road_points.specs.Shown.{shown}
use Rattle.milp_builder.specs.inside.Amounts.{column_in}
use Rattle.milp_builder.proofs.PointLemmas.{list_more}
use Rattle.milp_builder.proofs.shown_plan.shown_table.Goals as goal

pub loop-before-preserved : goal.loop-before-preserved
loop-before-preserved c =
    let row : ℕ → List ℤ = λ t. list_to (λ i. shown c.args.road.now c.args.point.now (column_in c.args.amount i t)) c.args.entries in
    let n = c.loop-before.before in
    c.in_ok-push.ensures.items
    ∙ ap (λ r. c.loop-before.rows.items ++ (r ∷ [])) c.in_ok-row.ensures
    ∙ ap (λ x. x ++ (row (n + 1) ∷ [])) c.loop-before.invariant
    ∙ sym (list_more row n)

pub returns : goal.returns
returns c =
    let row : ℕ → List ℤ = λ t. list_to (λ i. shown c.args.road.now c.args.point.now (column_in c.args.amount i t)) c.args.entries in
    let end : c.loop-before.before ≡ c.args.road.now.stages = omega (arith, c.loop-before-test.false, c.loop-before.auto.before-end) in
    c.new.ensures ∙ c.loop-before.invariant ∙ ap (list_to row) end
