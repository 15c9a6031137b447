use Rattle.std.proofs.Common.{◌≡◌, ◌+◌, ◌≤◌, [], ◌∷◌, arith, subst}
use Rattle.std.proofs.Math.Nat.{mul-le-mul_right}
use Rattle.algebra.specs.Lists.{list_to}
use Rattle.road_types.specs.HaulForms.{transit_form}
use Rattle.form_rows.specs.FormRows.{form_terms, forms_terms, Grew}
use Rattle.form_rows.proofs.GrewLemmas.{grew_count, grew_list}
use Rattle.haul_rows.proofs.blocks.block_transit_rows.Goals as goal

pub transit_row-requires-clause-free : goal.transit_row-requires-clause-free
transit_row-requires-clause-free c =
    let more : c.loop-before.before + 1 ≤ c.args.road.now.stages = omega arith in
    omega (arith, c.loop-before.invariant.grew.room, mul-le-mul_right (1) more)

pub transit_row-requires-clause-width : goal.transit_row-requires-clause-width
transit_row-requires-clause-width c = omega (arith, c.loop-before.invariant.grew.width)

pub loop-before-preserved : goal.loop-before-preserved
loop-before-preserved c =
    let step = c.transit_row.ensures in
    record {
      grew = grew_list c.args.road.now (transit_form c.args.road.now c.args.block) c.loop-before.before c.args.rows.now c.loop-before.rows c.transit_row.new.rows c.loop-before.invariant.grew step;
      count = omega (arith, grew_count c.loop-before.rows c.transit_row.new.rows (form_terms c.args.road.now (transit_form c.args.road.now c.args.block (c.loop-before.before + 1)) ∷ []) step);
    }

pub returns : goal.returns
returns c =
    let all : c.loop-before.before ≡ c.args.road.now.stages = omega arith in
    subst (λ k. Grew c.args.rows.now c.loop-before.rows (forms_terms c.args.road.now (list_to (transit_form c.args.road.now c.args.block) k))) all c.loop-before.invariant.grew
