use Rattle.std.proofs.Common.{◌≡◌, ◌+◌, ◌*◌, length}
use Rattle.algebra.specs.Lists.{list_to, flat_to}
use Rattle.road_types.specs.HaulForms.{balance_form}
use Rattle.road_types.specs.Road.{section_count}
use Rattle.form_rows.specs.FormRows.{forms_terms, Grew}
use Rattle.haul_rows.proofs.balances.balance_rows.Given as goal

abbrev pub invariant-loop-before : goal.invariant-loop-before
invariant-loop-before l = record {
  grew : Grew l.initial.rows l.rows (forms_terms l.road (flat_to (λ t. list_to (balance_form l.road t) (section_count l.road)) l.before));
  count : length l.rows.rows ≡ length l.initial.rows.rows + l.before * (section_count l.road);
}
