use Rattle.std.proofs.Common.{◌≡◌, ◌+◌, ◌≤◌, [], ◌∷◌, ◌++◌, arith, subst}
use Rattle.std.proofs.Math.Nat.{mul-le-mul_right}
use Rattle.algebra.specs.Lists.{flat_to}
use Rattle.road_types.specs.Forms.{negated, between_forms}
use Rattle.road_types.specs.Heights.{segment_length}
use Rattle.road_types.specs.SectionForms.{grade_entries}
use Rattle.road_types.specs.Road.{segment_count}
use Rattle.road_types.specs.RoadPrograms.{terms_of}
use Rattle.form_rows.specs.FormRows.{forms_terms, Grew}
use Rattle.form_rows.proofs.GrewLemmas.{grew_more, grew_count, grew_flat}
use Rattle.section_rows.proofs.heights.grade_end_rows.Goals as goal

pub least_grade_row-requires-clause-free : goal.least_grade_row-requires-clause-free
least_grade_row-requires-clause-free c =
    let more : c.loop-before.before + 1 ≤ segment_count c.args.road.now = omega arith in
    omega (arith, c.loop-before.invariant.grew.room, mul-le-mul_right (2) more)

pub least_grade_row-requires-clause-width : goal.least_grade_row-requires-clause-width
least_grade_row-requires-clause-width c = omega (arith, c.loop-before.invariant.grew.width)

pub greatest_grade_row-requires-clause-free : goal.greatest_grade_row-requires-clause-free
greatest_grade_row-requires-clause-free c =
    let more : c.loop-before.before + 1 ≤ segment_count c.args.road.now = omega arith in
    omega (arith, c.loop-before.invariant.grew.room, mul-le-mul_right (2) more, grew_count c.loop-before.rows c.least_grade_row.new.rows (terms_of c.args.road.now (grade_entries (c.loop-before.before + 1) (segment_length c.args.road.now.knots (c.loop-before.before + 1))) ∷ []) c.least_grade_row.ensures, c.least_grade_row.ensures.room)

pub greatest_grade_row-requires-clause-width : goal.greatest_grade_row-requires-clause-width
greatest_grade_row-requires-clause-width c = omega (arith, c.loop-before.invariant.grew.width, c.least_grade_row.ensures.width)

pub loop-before-preserved : goal.loop-before-preserved
loop-before-preserved c =
    let step : Grew c.loop-before.rows c.greatest_grade_row.new.rows ((terms_of c.args.road.now (grade_entries (c.loop-before.before + 1) (segment_length c.args.road.now.knots (c.loop-before.before + 1))) ∷ []) ++ (terms_of c.args.road.now (negated (grade_entries (c.loop-before.before + 1) (segment_length c.args.road.now.knots (c.loop-before.before + 1)))) ∷ [])) = grew_more c.loop-before.rows c.least_grade_row.new.rows c.greatest_grade_row.new.rows (terms_of c.args.road.now (grade_entries (c.loop-before.before + 1) (segment_length c.args.road.now.knots (c.loop-before.before + 1))) ∷ []) (terms_of c.args.road.now (negated (grade_entries (c.loop-before.before + 1) (segment_length c.args.road.now.knots (c.loop-before.before + 1)))) ∷ []) (c.least_grade_row.ensures) c.greatest_grade_row.ensures in
    record {
      grew = grew_flat c.args.road.now (λ g. between_forms (grade_entries g (segment_length c.args.road.now.knots g)) c.args.road.now.grade.0 c.args.road.now.grade.1) c.loop-before.before c.args.rows.now c.loop-before.rows c.greatest_grade_row.new.rows c.loop-before.invariant.grew step;
      count = omega (arith, grew_count c.loop-before.rows c.greatest_grade_row.new.rows ((terms_of c.args.road.now (grade_entries (c.loop-before.before + 1) (segment_length c.args.road.now.knots (c.loop-before.before + 1))) ∷ []) ++ (terms_of c.args.road.now (negated (grade_entries (c.loop-before.before + 1) (segment_length c.args.road.now.knots (c.loop-before.before + 1)))) ∷ [])) step);
    }

pub returns : goal.returns
returns c =
    let all : c.loop-before.before ≡ segment_count c.args.road.now = omega arith in
    subst (λ k. Grew c.args.rows.now c.loop-before.rows (forms_terms c.args.road.now (flat_to (λ g. between_forms (grade_entries g (segment_length c.args.road.now.knots g)) c.args.road.now.grade.0 c.args.road.now.grade.1) k))) all c.loop-before.invariant.grew
