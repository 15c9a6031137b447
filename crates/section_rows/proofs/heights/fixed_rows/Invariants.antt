use Rattle.std.proofs.Common.{◌≡◌, ◌+◌, ◌*◌, length}
use Rattle.algebra.specs.Lists.{flat_to}
use Rattle.road_types.specs.Forms.{between_forms}
use Rattle.road_types.specs.SectionForms.{station_entries}
use Rattle.road_types.specs.Road.{fixed_point}
use Rattle.form_rows.specs.FormRows.{forms_terms, Grew}
use Rattle.section_rows.proofs.heights.fixed_rows.Given as goal

abbrev pub invariant-loop-before : goal.invariant-loop-before
invariant-loop-before l = record {
  grew : Grew l.initial.rows l.rows (forms_terms l.road (flat_to (λ f. between_forms (station_entries l.road (fixed_point l.road f).station) (fixed_point l.road f).low (fixed_point l.road f).high) l.before));
  count : length l.rows.rows ≡ length l.initial.rows.rows + l.before * (2);
}
