use Rattle.std.proofs.Common.{◌≡◌, ◌+◌, ◌*◌, [], ◌∷◌, length}
use Rattle.algebra.specs.Lists.{flat_to}
use Rattle.road_types.specs.SectionForms.{next_height_form, next_grade_form}
use Rattle.form_rows.specs.FormRows.{forms_terms, Grew}
use Rattle.section_rows.proofs.heights.continuity_rows.Given as goal

abbrev pub invariant-loop-before : goal.invariant-loop-before
invariant-loop-before l = record {
  grew : Grew l.initial.rows l.rows (forms_terms l.road (flat_to (λ g. next_height_form l.road g ∷ next_grade_form l.road g ∷ []) l.before));
  count : length l.rows.rows ≡ length l.initial.rows.rows + l.before * (2);
}
