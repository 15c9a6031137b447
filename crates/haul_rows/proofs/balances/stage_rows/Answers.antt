use Rattle.std.proofs.Common.{◌≡◌, ◌+◌, ◌≤◌, [], ◌∷◌, arith, subst}
use Rattle.std.proofs.Math.Nat.{mul-le-mul_right}
use Rattle.algebra.specs.Lists.{list_to}
use Rattle.road_types.specs.HaulForms.{balance_form}
use Rattle.road_types.specs.Road.{section_count}
use Rattle.form_rows.specs.FormRows.{form_terms, forms_terms, Grew}
use Rattle.form_rows.proofs.GrewLemmas.{grew_count, grew_list}
use Rattle.haul_rows.proofs.balances.stage_rows.Goals as goal

pub balance_row-requires-clause-free : goal.balance_row-requires-clause-free
balance_row-requires-clause-free c =
    let more : c.loop-before.before + 1 ≤ section_count c.args.road.now = omega arith in
    omega (arith, c.loop-before.invariant.grew.room, mul-le-mul_right (1) more)

pub balance_row-requires-clause-width : goal.balance_row-requires-clause-width
balance_row-requires-clause-width c = omega (arith, c.loop-before.invariant.grew.width)

pub loop-before-preserved : goal.loop-before-preserved
loop-before-preserved c =
    let step = c.balance_row.ensures in
    record {
      grew = grew_list c.args.road.now (balance_form c.args.road.now c.args.stage) c.loop-before.before c.args.rows.now c.loop-before.rows c.balance_row.new.rows c.loop-before.invariant.grew step;
      count = omega (arith, grew_count c.loop-before.rows c.balance_row.new.rows (form_terms c.args.road.now (balance_form c.args.road.now c.args.stage (c.loop-before.before + 1)) ∷ []) step);
    }

pub returns : goal.returns
returns c =
    let all : c.loop-before.before ≡ section_count c.args.road.now = omega arith in
    subst (λ k. Grew c.args.rows.now c.loop-before.rows (forms_terms c.args.road.now (list_to (balance_form c.args.road.now c.args.stage) k))) all c.loop-before.invariant.grew
