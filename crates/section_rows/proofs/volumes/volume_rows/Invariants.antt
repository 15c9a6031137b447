use Rattle.std.proofs.Common.{◌≡◌, ◌+◌, ◌*◌, length}
use Rattle.algebra.specs.Lists.{flat_to}
use Rattle.road_types.specs.SectionForms.{lines_forms}
use Rattle.road_types.specs.RoadPrograms.{lines_in}
use Rattle.form_rows.specs.FormRows.{forms_terms, Grew}
use Rattle.section_rows.proofs.volumes.volume_rows.Given as goal

abbrev pub invariant-loop-before : goal.invariant-loop-before
invariant-loop-before l = record {
  grew : Grew l.initial.rows l.rows (forms_terms l.road (flat_to (λ i. lines_forms l.road i (lines_in l.road l.ranges.heights i)) l.before));
  count : length l.rows.rows ≡ length l.initial.rows.rows + l.before * (4);
}
