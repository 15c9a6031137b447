use Rattle.std.proofs.Common.{◌≡◌, ◌+◌, ◌≤◌, [], ◌∷◌, arith, subst}
use Rattle.std.proofs.Math.Nat.{mul-le-mul_right}
use Rattle.algebra.specs.Lists.{list_to}
use Rattle.road_types.specs.SectionForms.{offset_form}
use Rattle.road_types.specs.Road.{section_count}
use Rattle.form_rows.specs.FormRows.{form_terms, forms_terms, Grew}
use Rattle.form_rows.proofs.GrewLemmas.{grew_count, grew_list}
use Rattle.section_rows.proofs.heights.offset_rows.Goals as goal

pub offset_row-requires-clause-free : goal.offset_row-requires-clause-free
offset_row-requires-clause-free c =
    let more : c.loop-before.before + 1 ≤ section_count c.args.road.now = omega arith in
    omega (arith, c.loop-before.invariant.grew.room, mul-le-mul_right (1) more)

pub offset_row-requires-clause-width : goal.offset_row-requires-clause-width
offset_row-requires-clause-width c = omega (arith, c.loop-before.invariant.grew.width)

pub loop-before-preserved : goal.loop-before-preserved
loop-before-preserved c =
    let step = c.offset_row.ensures in
    record {
      grew = grew_list c.args.road.now (offset_form c.args.road.now) c.loop-before.before c.args.rows.now c.loop-before.rows c.offset_row.new.rows c.loop-before.invariant.grew step;
      count = omega (arith, grew_count c.loop-before.rows c.offset_row.new.rows (form_terms c.args.road.now (offset_form c.args.road.now (c.loop-before.before + 1)) ∷ []) step);
    }

pub returns : goal.returns
returns c =
    let all : c.loop-before.before ≡ section_count c.args.road.now = omega arith in
    subst (λ k. Grew c.args.rows.now c.loop-before.rows (forms_terms c.args.road.now (list_to (offset_form c.args.road.now) k))) all c.loop-before.invariant.grew
