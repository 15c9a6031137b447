use Rattle.std.proofs.Common.{◌≡◌, ◌+◌, ◌-◌, ◌≤◌, [], ◌∷◌, arith, subst}
use Rattle.std.proofs.Math.Nat.{mul-le-mul_right}
use Rattle.algebra.specs.Lists.{list_to}
use Rattle.road_types.specs.HaulForms.{order_form}
use Rattle.form_rows.specs.FormRows.{form_terms, forms_terms, Grew}
use Rattle.form_rows.proofs.GrewLemmas.{grew_count, grew_list}
use Rattle.haul_rows.proofs.blocks.block_order_rows.Goals as goal

pub order_row-requires-clause-free : goal.order_row-requires-clause-free
order_row-requires-clause-free c =
    let more : c.loop-before.before + 1 ≤ (c.args.road.now.stages - 2) = omega arith in
    omega (arith, c.loop-before.invariant.grew.room, mul-le-mul_right (1) more)

pub order_row-requires-clause-width : goal.order_row-requires-clause-width
order_row-requires-clause-width c = omega (arith, c.loop-before.invariant.grew.width)

pub loop-before-preserved : goal.loop-before-preserved
loop-before-preserved c =
    let step = c.order_row.ensures in
    record {
      grew = grew_list c.args.road.now (λ before. order_form c.args.road.now c.args.block (before + 1)) c.loop-before.before c.args.rows.now c.loop-before.rows c.order_row.new.rows c.loop-before.invariant.grew step;
      count = omega (arith, grew_count c.loop-before.rows c.order_row.new.rows (form_terms c.args.road.now (order_form c.args.road.now c.args.block (c.loop-before.before + 1 + 1)) ∷ []) step);
    }

pub returns : goal.returns
returns c =
    let all : c.loop-before.before ≡ (c.args.road.now.stages - 2) = omega arith in
    subst (λ k. Grew c.args.rows.now c.loop-before.rows (forms_terms c.args.road.now (list_to (λ before. order_form c.args.road.now c.args.block (before + 1)) k))) all c.loop-before.invariant.grew
