use Rattle.std.proofs.Common.{◌≡◌, ◌+◌, ◌-◌, ◌≤◌, arith, subst}
use Rattle.std.proofs.Math.Nat.{mul-le-mul_right}
use Rattle.algebra.specs.Lists.{list_to, flat_to}
use Rattle.road_types.specs.HaulForms.{order_form}
use Rattle.road_types.specs.Road.{block_count}
use Rattle.form_rows.specs.FormRows.{forms_terms, Grew}
use Rattle.form_rows.proofs.GrewLemmas.{grew_count, grew_flat, length-terms}
use Rattle.haul_rows.proofs.blocks.order_rows.Goals as goal

pub block_order_rows-requires-clause-free : goal.block_order_rows-requires-clause-free
block_order_rows-requires-clause-free c =
    let more : c.loop-before.before + 1 ≤ block_count c.args.road.now = omega arith in
    omega (arith, c.loop-before.invariant.grew.room, mul-le-mul_right (c.args.road.now.stages - 2) more)

pub block_order_rows-requires-clause-width : goal.block_order_rows-requires-clause-width
block_order_rows-requires-clause-width c = omega (arith, c.loop-before.invariant.grew.width)

pub loop-before-preserved : goal.loop-before-preserved
loop-before-preserved c =
    let step = c.block_order_rows.ensures in
    record {
      grew = grew_flat c.args.road.now (λ k. list_to (λ before. order_form c.args.road.now k (before + 1)) (c.args.road.now.stages - 2)) c.loop-before.before c.args.rows.now c.loop-before.rows c.block_order_rows.new.rows c.loop-before.invariant.grew step;
      count = omega (arith, grew_count c.loop-before.rows c.block_order_rows.new.rows (forms_terms c.args.road.now (list_to (λ before. order_form c.args.road.now (c.loop-before.before + 1) (before + 1)) (c.args.road.now.stages - 2))) step, length-terms c.args.road.now (λ before. order_form c.args.road.now (c.loop-before.before + 1) (before + 1)) (c.args.road.now.stages - 2));
    }

pub returns : goal.returns
returns c =
    let all : c.loop-before.before ≡ block_count c.args.road.now = omega arith in
    subst (λ k. Grew c.args.rows.now c.loop-before.rows (forms_terms c.args.road.now (flat_to (λ k. list_to (λ before. order_form c.args.road.now k (before + 1)) (c.args.road.now.stages - 2)) k))) all c.loop-before.invariant.grew
