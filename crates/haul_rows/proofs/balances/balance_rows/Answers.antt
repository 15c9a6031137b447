use Rattle.std.proofs.Common.{◌≡◌, ◌+◌, ◌≤◌, arith, subst}
use Rattle.std.proofs.Math.Nat.{mul-le-mul_right}
use Rattle.algebra.specs.Lists.{list_to, flat_to}
use Rattle.road_types.specs.HaulForms.{balance_form}
use Rattle.road_types.specs.Road.{section_count}
use Rattle.form_rows.specs.FormRows.{forms_terms, Grew}
use Rattle.form_rows.proofs.GrewLemmas.{grew_count, grew_flat, length-terms}
use Rattle.haul_rows.proofs.balances.balance_rows.Goals as goal

pub stage_rows-requires-clause-free : goal.stage_rows-requires-clause-free
stage_rows-requires-clause-free c =
    let more : c.loop-before.before + 1 ≤ c.args.road.now.stages = omega arith in
    omega (arith, c.loop-before.invariant.grew.room, mul-le-mul_right (section_count c.args.road.now) more)

pub stage_rows-requires-clause-width : goal.stage_rows-requires-clause-width
stage_rows-requires-clause-width c = omega (arith, c.loop-before.invariant.grew.width)

pub loop-before-preserved : goal.loop-before-preserved
loop-before-preserved c =
    let step = c.stage_rows.ensures in
    record {
      grew = grew_flat c.args.road.now (λ t. list_to (balance_form c.args.road.now t) (section_count c.args.road.now)) c.loop-before.before c.args.rows.now c.loop-before.rows c.stage_rows.new.rows c.loop-before.invariant.grew step;
      count = omega (arith, grew_count c.loop-before.rows c.stage_rows.new.rows (forms_terms c.args.road.now (list_to (balance_form c.args.road.now (c.loop-before.before + 1)) (section_count c.args.road.now))) step, length-terms c.args.road.now (balance_form c.args.road.now (c.loop-before.before + 1)) (section_count c.args.road.now));
    }

pub returns : goal.returns
returns c =
    let all : c.loop-before.before ≡ c.args.road.now.stages = omega arith in
    subst (λ k. Grew c.args.rows.now c.loop-before.rows (forms_terms c.args.road.now (flat_to (λ t. list_to (balance_form c.args.road.now t) (section_count c.args.road.now)) k))) all c.loop-before.invariant.grew
