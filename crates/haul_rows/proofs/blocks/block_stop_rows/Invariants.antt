use Rattle.std.proofs.Common.{◌≡◌, ◌+◌, ◌*◌, [], ◌∷◌, length}
use Rattle.algebra.specs.Lists.{flat_to}
use Rattle.road_types.specs.HaulForms.{cut_stop_form, fill_stop_form}
use Rattle.form_rows.specs.FormRows.{forms_terms, Grew}
use Rattle.haul_rows.proofs.blocks.block_stop_rows.Given as goal

abbrev pub invariant-loop-before : goal.invariant-loop-before
invariant-loop-before l = record {
  grew : Grew l.initial.rows l.rows (forms_terms l.road (flat_to (λ before. cut_stop_form l.road l.block (before + 1) ∷ fill_stop_form l.road l.block (before + 1) ∷ []) l.before));
  count : length l.rows.rows ≡ length l.initial.rows.rows + l.before * (2);
}
