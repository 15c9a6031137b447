use Rattle.std.proofs.Common.{◌+◌, ap, sym, ◌∙◌, arith, ℕ}
use Rattle.std.specs.Prelude.{ℤ}
use Rattle.road_types.specs.declared.column.Column.TheVariants.{Opened}
use Rattle.road_points.specs.Shown.{shown}
use Rattle.road_points.specs.ShownPlan.{zeros_to}
use Rattle.milp_builder.proofs.ShownLemmas.{zeros_none, zeros_more}
use Rattle.milp_builder.proofs.shown_plan.shown_opening.Goals as goal

pub loop-before-init : goal.loop-before-init
loop-before-init c = record {
  closed_is = sym (zeros_none (λ t. shown c.args.road.now c.args.point.now (Opened c.args.block t)));
  few = omega arith;
}

pub loop-before-preserved : goal.loop-before-preserved
loop-before-preserved c =
    let h : ℕ → ℤ = λ t. shown c.args.road.now c.args.point.now (Opened c.args.block t) in
    let n = c.loop-before.before in
    let so_far = c.loop-before.invariant.closed_is in
    let here = c.closed_at-closed.ensures.value in
    record {
      closed_is = ap (λ x. x + c.closed_at-closed.result) so_far ∙ ap (λ x. zeros_to h n + x) here ∙ sym (zeros_more h n);
      few = omega (arith, c.closed_at-closed.ensures.few, c.loop-before.invariant.few);
    }
