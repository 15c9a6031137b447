use Rattle.std.proofs.Common.{◌≡◌, ◌+◌, ◌*◌, length}
use Rattle.algebra.specs.Lists.{list_to}
use Rattle.road_types.specs.SectionForms.{offset_form}
use Rattle.form_rows.specs.FormRows.{forms_terms, Grew}
use Rattle.section_rows.proofs.heights.offset_rows.Given as goal

abbrev pub invariant-loop-before : goal.invariant-loop-before
invariant-loop-before l = record {
  grew : Grew l.initial.rows l.rows (forms_terms l.road (list_to (offset_form l.road) l.before));
  count : length l.rows.rows ≡ length l.initial.rows.rows + l.before * (1);
}
