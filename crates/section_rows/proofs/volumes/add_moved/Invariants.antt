use Rattle.std.proofs.Common.{◌≡◌, ◌+◌, ◌*◌, ◌≤◌, [], ◌∷◌, ◌++◌, length}
use Rattle.algebra.specs.Lists.{flat_to}
use Rattle.road_types.specs.RoadPrograms.{terms_of}
use Rattle.road_types.specs.declared.column.Column.TheVariants.{Cut, Fill}
use Rattle.section_rows.proofs.volumes.add_moved.Given as goal

abbrev pub invariant-loop-before : goal.invariant-loop-before
invariant-loop-before l = record {
  terms : l.row ≡ l.initial.row ++ terms_of l.road (flat_to (λ t. (Cut l.section t, l.cut) ∷ (Fill l.section t, l.fill) ∷ []) l.before);
  few : length l.row ≤ length l.initial.row + l.before * 2;
}
