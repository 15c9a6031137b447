use Rattle.std.proofs.Common.{◌≡◌, ◌+◌, ◌-◌, ◌≤◌, [], ◌∷◌, ◌++◌, arith, subst}
use Rattle.std.proofs.Math.Nat.{mul-le-mul_right}
use Rattle.algebra.specs.Lists.{flat_to}
use Rattle.road_types.specs.HaulForms.{cut_stop_form, fill_stop_form}
use Rattle.form_rows.specs.FormRows.{form_terms, forms_terms, Grew}
use Rattle.form_rows.proofs.GrewLemmas.{grew_more, grew_count, grew_flat}
use Rattle.haul_rows.proofs.blocks.block_stop_rows.Goals as goal

pub cut_stop_row-requires-clause-free : goal.cut_stop_row-requires-clause-free
cut_stop_row-requires-clause-free c =
    let more : c.loop-before.before + 1 ≤ (c.args.road.now.stages - 1) = omega arith in
    omega (arith, c.loop-before.invariant.grew.room, mul-le-mul_right (2) more)

pub cut_stop_row-requires-clause-width : goal.cut_stop_row-requires-clause-width
cut_stop_row-requires-clause-width c = omega (arith, c.loop-before.invariant.grew.width)

pub fill_stop_row-requires-clause-free : goal.fill_stop_row-requires-clause-free
fill_stop_row-requires-clause-free c =
    let more : c.loop-before.before + 1 ≤ (c.args.road.now.stages - 1) = omega arith in
    omega (arith, c.loop-before.invariant.grew.room, mul-le-mul_right (2) more, grew_count c.loop-before.rows c.cut_stop_row.new.rows (form_terms c.args.road.now (cut_stop_form c.args.road.now c.args.block (c.loop-before.before + 1 + 1)) ∷ []) c.cut_stop_row.ensures, c.cut_stop_row.ensures.room)

pub fill_stop_row-requires-clause-width : goal.fill_stop_row-requires-clause-width
fill_stop_row-requires-clause-width c = omega (arith, c.loop-before.invariant.grew.width, c.cut_stop_row.ensures.width)

pub loop-before-preserved : goal.loop-before-preserved
loop-before-preserved c =
    let step : Grew c.loop-before.rows c.fill_stop_row.new.rows ((form_terms c.args.road.now (cut_stop_form c.args.road.now c.args.block (c.loop-before.before + 1 + 1)) ∷ []) ++ (form_terms c.args.road.now (fill_stop_form c.args.road.now c.args.block (c.loop-before.before + 1 + 1)) ∷ [])) = grew_more c.loop-before.rows c.cut_stop_row.new.rows c.fill_stop_row.new.rows (form_terms c.args.road.now (cut_stop_form c.args.road.now c.args.block (c.loop-before.before + 1 + 1)) ∷ []) (form_terms c.args.road.now (fill_stop_form c.args.road.now c.args.block (c.loop-before.before + 1 + 1)) ∷ []) (c.cut_stop_row.ensures) c.fill_stop_row.ensures in
    record {
      grew = grew_flat c.args.road.now (λ before. cut_stop_form c.args.road.now c.args.block (before + 1) ∷ fill_stop_form c.args.road.now c.args.block (before + 1) ∷ []) c.loop-before.before c.args.rows.now c.loop-before.rows c.fill_stop_row.new.rows c.loop-before.invariant.grew step;
      count = omega (arith, grew_count c.loop-before.rows c.fill_stop_row.new.rows ((form_terms c.args.road.now (cut_stop_form c.args.road.now c.args.block (c.loop-before.before + 1 + 1)) ∷ []) ++ (form_terms c.args.road.now (fill_stop_form c.args.road.now c.args.block (c.loop-before.before + 1 + 1)) ∷ [])) step);
    }

pub returns : goal.returns
returns c =
    let all : c.loop-before.before ≡ (c.args.road.now.stages - 1) = omega arith in
    subst (λ k. Grew c.args.rows.now c.loop-before.rows (forms_terms c.args.road.now (flat_to (λ before. cut_stop_form c.args.road.now c.args.block (before + 1) ∷ fill_stop_form c.args.road.now c.args.block (before + 1) ∷ []) k))) all c.loop-before.invariant.grew
