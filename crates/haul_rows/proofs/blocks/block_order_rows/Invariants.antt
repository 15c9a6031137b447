use Rattle.std.proofs.Common.{◌≡◌, ◌+◌, ◌*◌, length}
use Rattle.algebra.specs.Lists.{list_to}
use Rattle.road_types.specs.HaulForms.{order_form}
use Rattle.form_rows.specs.FormRows.{forms_terms, Grew}
use Rattle.haul_rows.proofs.blocks.block_order_rows.Given as goal

abbrev pub invariant-loop-before : goal.invariant-loop-before
invariant-loop-before l = record {
  grew : Grew l.initial.rows l.rows (forms_terms l.road (list_to (λ before. order_form l.road l.block (before + 1)) l.before));
  count : length l.rows.rows ≡ length l.initial.rows.rows + l.before * (1);
}
