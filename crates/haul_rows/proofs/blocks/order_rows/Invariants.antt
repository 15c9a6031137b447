use Rattle.std.proofs.Common.{◌≡◌, ◌+◌, ◌-◌, ◌*◌, length}
use Rattle.algebra.specs.Lists.{list_to, flat_to}
use Rattle.road_types.specs.HaulForms.{order_form}
use Rattle.form_rows.specs.FormRows.{forms_terms, Grew}
use Rattle.haul_rows.proofs.blocks.order_rows.Given as goal

abbrev pub invariant-loop-before : goal.invariant-loop-before
invariant-loop-before l = record {
  grew : Grew l.initial.rows l.rows (forms_terms l.road (flat_to (λ k. list_to (λ before. order_form l.road k (before + 1)) (l.road.stages - 2)) l.before));
  count : length l.rows.rows ≡ length l.initial.rows.rows + l.before * (l.road.stages - 2);
}
