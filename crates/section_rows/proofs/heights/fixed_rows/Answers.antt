use Rattle.std.proofs.Common.{◌≡◌, ◌+◌, ◌≤◌, [], ◌∷◌, ◌++◌, arith, subst}
use Rattle.std.proofs.Math.Nat.{mul-le-mul_right}
use Rattle.algebra.specs.Lists.{flat_to}
use Rattle.road_types.specs.Forms.{negated, between_forms}
use Rattle.road_types.specs.SectionForms.{station_entries}
use Rattle.road_types.specs.Road.{fixed_count, fixed_point}
use Rattle.road_types.specs.RoadPrograms.{terms_of}
use Rattle.form_rows.specs.FormRows.{forms_terms, Grew}
use Rattle.form_rows.proofs.GrewLemmas.{grew_more, grew_count, grew_flat}
use Rattle.section_rows.proofs.heights.fixed_rows.Goals as goal

pub least_height_row-requires-clause-free : goal.least_height_row-requires-clause-free
least_height_row-requires-clause-free c =
    let more : c.loop-before.before + 1 ≤ fixed_count c.args.road.now = omega arith in
    omega (arith, c.loop-before.invariant.grew.room, mul-le-mul_right (2) more)

pub least_height_row-requires-clause-width : goal.least_height_row-requires-clause-width
least_height_row-requires-clause-width c = omega (arith, c.loop-before.invariant.grew.width)

pub greatest_height_row-requires-clause-free : goal.greatest_height_row-requires-clause-free
greatest_height_row-requires-clause-free c =
    let more : c.loop-before.before + 1 ≤ fixed_count c.args.road.now = omega arith in
    omega (arith, c.loop-before.invariant.grew.room, mul-le-mul_right (2) more, grew_count c.loop-before.rows c.least_height_row.new.rows (terms_of c.args.road.now (station_entries c.args.road.now (fixed_point c.args.road.now (c.loop-before.before + 1)).station) ∷ []) c.least_height_row.ensures, c.least_height_row.ensures.room)

pub greatest_height_row-requires-clause-width : goal.greatest_height_row-requires-clause-width
greatest_height_row-requires-clause-width c = omega (arith, c.loop-before.invariant.grew.width, c.least_height_row.ensures.width)

pub loop-before-preserved : goal.loop-before-preserved
loop-before-preserved c =
    let step : Grew c.loop-before.rows c.greatest_height_row.new.rows ((terms_of c.args.road.now (station_entries c.args.road.now (fixed_point c.args.road.now (c.loop-before.before + 1)).station) ∷ []) ++ (terms_of c.args.road.now (negated (station_entries c.args.road.now (fixed_point c.args.road.now (c.loop-before.before + 1)).station)) ∷ [])) = grew_more c.loop-before.rows c.least_height_row.new.rows c.greatest_height_row.new.rows (terms_of c.args.road.now (station_entries c.args.road.now (fixed_point c.args.road.now (c.loop-before.before + 1)).station) ∷ []) (terms_of c.args.road.now (negated (station_entries c.args.road.now (fixed_point c.args.road.now (c.loop-before.before + 1)).station)) ∷ []) (c.least_height_row.ensures) c.greatest_height_row.ensures in
    record {
      grew = grew_flat c.args.road.now (λ f. between_forms (station_entries c.args.road.now (fixed_point c.args.road.now f).station) (fixed_point c.args.road.now f).low (fixed_point c.args.road.now f).high) c.loop-before.before c.args.rows.now c.loop-before.rows c.greatest_height_row.new.rows c.loop-before.invariant.grew step;
      count = omega (arith, grew_count c.loop-before.rows c.greatest_height_row.new.rows ((terms_of c.args.road.now (station_entries c.args.road.now (fixed_point c.args.road.now (c.loop-before.before + 1)).station) ∷ []) ++ (terms_of c.args.road.now (negated (station_entries c.args.road.now (fixed_point c.args.road.now (c.loop-before.before + 1)).station)) ∷ [])) step);
    }

pub returns : goal.returns
returns c =
    let all : c.loop-before.before ≡ fixed_count c.args.road.now = omega arith in
    subst (λ k. Grew c.args.rows.now c.loop-before.rows (forms_terms c.args.road.now (flat_to (λ f. between_forms (station_entries c.args.road.now (fixed_point c.args.road.now f).station) (fixed_point c.args.road.now f).low (fixed_point c.args.road.now f).high) k))) all c.loop-before.invariant.grew
