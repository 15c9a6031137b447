use Rattle.std.proofs.Common.{◌≡◌, ◌+◌, ◌-◌, ◌*◌, ◌/◌, ◌%◌, arith, ap, sym, ◌∙◌, refl, FitsSigned, rules}
use Rattle.std.specs.Prelude.{neg_ℤ}
use Rattle.std.specs.Int.{w64}
use Rattle.std.proofs.lemmas.Int.{to_z-of_z}
use Rattle.algebra.specs.Numbered.{IsNumber}
use Rattle.road_types.specs.Forms.{negated, between_forms}
use Rattle.road_types.specs.Heights.{segment_length}
use Rattle.road_types.specs.Road.{segment_count}
use Rattle.road_types.specs.SectionForms.{grade_entries}
use Rattle.term_store.specs.declared.side.Side.TheVariants.{AtLeast}
use Rattle.form_rows.specs.FormRows.{asked}
use Rattle.form_rows.proofs.PlaceLemmas.{flat_at, pair_first, pair_second, below_two}
use Rattle.section_rows.proofs.sides.grade_end_side.Goals as goal

pub returns-then-row-eq0 : goal.returns-then-row-eq0
returns-then-row-eq0 c =
    let road = c.args.road.now in
    let at : IsNumber c.args.row (segment_count road * 2) = record { from_one = c.requires.row.from_one; at_most = omega (arith, c.requires.row.at_most) } in
    let g = (c.args.row - 1) / 2 + 1 in
    let here = flat_at (λ g. between_forms (grade_entries g (segment_length road.knots g)) road.grade.0 road.grade.1) (segment_count road) 2 c.args.row (λ k low high. refl) (omega arith) at in
    let form = ap asked (here ∙ pair_first (record { entries = grade_entries g (segment_length road.knots g); side = AtLeast; right = road.grade.0 }) (record { entries = negated (grade_entries g (segment_length road.knots g)); side = AtLeast; right = neg_ℤ road.grade.1 }) ((c.args.row - 1) % 2) (omega arith)) in
    let fits : FitsSigned w64 road.grade.0 = search rules in
    simp to_z-of_z (sym form)

pub returns-else-row-eq0 : goal.returns-else-row-eq0
returns-else-row-eq0 c =
    let road = c.args.road.now in
    let at : IsNumber c.args.row (segment_count road * 2) = record { from_one = c.requires.row.from_one; at_most = omega (arith, c.requires.row.at_most) } in
    let g = (c.args.row - 1) / 2 + 1 in
    let here = flat_at (λ g. between_forms (grade_entries g (segment_length road.knots g)) road.grade.0 road.grade.1) (segment_count road) 2 c.args.row (λ k low high. refl) (omega arith) at in
    let form = ap asked (here ∙ pair_second (record { entries = grade_entries g (segment_length road.knots g); side = AtLeast; right = road.grade.0 }) (record { entries = negated (grade_entries g (segment_length road.knots g)); side = AtLeast; right = neg_ℤ road.grade.1 }) ((c.args.row - 1) % 2) (below_two (c.args.row - 1)) (λ e. omega arith)) in
    let fits : FitsSigned w64 c.opposite.result = search rules in
    let high : FitsSigned w64 road.grade.1 = search rules in
    let right : c.opposite.result ≡ neg_ℤ road.grade.1 = simp to_z-of_z at c.opposite.ensures.value in
    simp to_z-of_z (rw right (sym form))
