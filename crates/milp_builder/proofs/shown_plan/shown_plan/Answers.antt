use Rattle.std.proofs.Common.{ap, ◌∙◌}
use Rattle.std.specs.Prelude.{ℤ}
use Rattle.std.specs.Int.{w128}
use Rattle.std.proofs.lemmas.Int.{to_z-of_z}
use Rattle.road_types.specs.declared.column.Column.{Column}
use Rattle.road_types.specs.declared.column.Column.TheVariants.{Cut, Fill, Right, Left, Access}
use Rattle.road_points.specs.Shown.{shown}
use Rattle.road_points.specs.ShownPlan.{table_to}
use Rattle.milp_builder.proofs.ShownLemmas.{plan_of_parts}
use Rattle.milp_builder.proofs.shown_plan.shown_plan.Goals as goal

pub returns : goal.returns
returns c =
    let road = c.args.road.now in
    let f : Column → ℤ = shown road c.args.point.now in
    plan_of_parts road c.args.den f _ c.requires.well_formed.counted.hops_count
    (to_z-of_z w128 c.args.den c.ranges.den)
    c.in_ok-pieces.ensures
    (c.in_ok-cut.ensures ∙ ap (table_to (λ i t. f (Cut i t)) road.stages) c.len-sections.ensures)
    (c.in_ok-fill.ensures ∙ ap (table_to (λ i t. f (Fill i t)) road.stages) c.len-sections.ensures)
    (c.in_ok-right.ensures ∙ ap (table_to (λ h t. f (Right h t)) road.stages) c.len-hops.ensures)
    (c.in_ok-left.ensures ∙ ap (table_to (λ h t. f (Left h t)) road.stages) c.len-hops.ensures)
    (c.in_ok-roads.ensures ∙ ap (table_to (λ q t. f (Access q t)) road.stages) c.len-accesses.ensures)
    c.in_ok-opens.ensures
