use Rattle.std.proofs.Common.{◌≡◌, ◌+◌, ◌*◌, length}
use Rattle.algebra.specs.Lists.{flat_to}
use Rattle.road_types.specs.Forms.{between_forms}
use Rattle.road_types.specs.Heights.{segment_length}
use Rattle.road_types.specs.SectionForms.{grade_entries}
use Rattle.form_rows.specs.FormRows.{forms_terms, Grew}
use Rattle.section_rows.proofs.heights.grade_end_rows.Given as goal

abbrev pub invariant-loop-before : goal.invariant-loop-before
invariant-loop-before l = record {
  grew : Grew l.initial.rows l.rows (forms_terms l.road (flat_to (λ g. between_forms (grade_entries g (segment_length l.road.knots g)) l.road.grade.0 l.road.grade.1) l.before));
  count : length l.rows.rows ≡ length l.initial.rows.rows + l.before * (2);
}
