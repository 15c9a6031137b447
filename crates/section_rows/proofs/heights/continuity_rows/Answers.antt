use Rattle.std.proofs.Common.{◌≡◌, ◌+◌, ◌-◌, ◌≤◌, [], ◌∷◌, ◌++◌, arith, subst}
use Rattle.std.proofs.Math.Nat.{mul-le-mul_right}
use Rattle.algebra.specs.Lists.{flat_to}
use Rattle.road_types.specs.SectionForms.{next_height_form, next_grade_form}
use Rattle.road_types.specs.Road.{segment_count}
use Rattle.form_rows.specs.FormRows.{form_terms, forms_terms, Grew}
use Rattle.form_rows.proofs.GrewLemmas.{grew_more, grew_count, grew_flat}
use Rattle.section_rows.proofs.heights.continuity_rows.Goals as goal

pub next_height_row-requires-clause-free : goal.next_height_row-requires-clause-free
next_height_row-requires-clause-free c =
    let more : c.loop-before.before + 1 ≤ (segment_count c.args.road.now - 1) = omega arith in
    omega (arith, c.loop-before.invariant.grew.room, mul-le-mul_right (2) more)

pub next_height_row-requires-clause-width : goal.next_height_row-requires-clause-width
next_height_row-requires-clause-width c = omega (arith, c.loop-before.invariant.grew.width)

pub next_grade_row-requires-clause-free : goal.next_grade_row-requires-clause-free
next_grade_row-requires-clause-free c =
    let more : c.loop-before.before + 1 ≤ (segment_count c.args.road.now - 1) = omega arith in
    omega (arith, c.loop-before.invariant.grew.room, mul-le-mul_right (2) more, grew_count c.loop-before.rows c.next_height_row.new.rows (form_terms c.args.road.now (next_height_form c.args.road.now (c.loop-before.before + 1)) ∷ []) c.next_height_row.ensures, c.next_height_row.ensures.room)

pub next_grade_row-requires-clause-width : goal.next_grade_row-requires-clause-width
next_grade_row-requires-clause-width c = omega (arith, c.loop-before.invariant.grew.width, c.next_height_row.ensures.width)

pub loop-before-preserved : goal.loop-before-preserved
loop-before-preserved c =
    let step : Grew c.loop-before.rows c.next_grade_row.new.rows ((form_terms c.args.road.now (next_height_form c.args.road.now (c.loop-before.before + 1)) ∷ []) ++ (form_terms c.args.road.now (next_grade_form c.args.road.now (c.loop-before.before + 1)) ∷ [])) = grew_more c.loop-before.rows c.next_height_row.new.rows c.next_grade_row.new.rows (form_terms c.args.road.now (next_height_form c.args.road.now (c.loop-before.before + 1)) ∷ []) (form_terms c.args.road.now (next_grade_form c.args.road.now (c.loop-before.before + 1)) ∷ []) (c.next_height_row.ensures) c.next_grade_row.ensures in
    record {
      grew = grew_flat c.args.road.now (λ g. next_height_form c.args.road.now g ∷ next_grade_form c.args.road.now g ∷ []) c.loop-before.before c.args.rows.now c.loop-before.rows c.next_grade_row.new.rows c.loop-before.invariant.grew step;
      count = omega (arith, grew_count c.loop-before.rows c.next_grade_row.new.rows ((form_terms c.args.road.now (next_height_form c.args.road.now (c.loop-before.before + 1)) ∷ []) ++ (form_terms c.args.road.now (next_grade_form c.args.road.now (c.loop-before.before + 1)) ∷ [])) step);
    }

pub returns : goal.returns
returns c =
    let all : c.loop-before.before ≡ (segment_count c.args.road.now - 1) = omega arith in
    subst (λ k. Grew c.args.rows.now c.loop-before.rows (forms_terms c.args.road.now (flat_to (λ g. next_height_form c.args.road.now g ∷ next_grade_form c.args.road.now g ∷ []) k))) all c.loop-before.invariant.grew
