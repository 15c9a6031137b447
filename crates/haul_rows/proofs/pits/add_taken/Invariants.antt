use Rattle.std.proofs.Common.{◌≡◌, ◌+◌, ◌*◌, ◌≤◌, ◌++◌, length}
use Rattle.algebra.specs.Lists.{list_to}
use Rattle.road_types.specs.HaulForms.{taken}
use Rattle.road_types.specs.RoadPrograms.{terms_of}
use Rattle.road_types.specs.declared.column.Column.TheVariants.{Access}
use Rattle.haul_rows.proofs.pits.add_taken.Given as goal

abbrev pub invariant-loop-before : goal.invariant-loop-before
invariant-loop-before l = record {
  terms : l.row ≡ l.initial.row ++ terms_of l.road (list_to (λ q. (Access q l.stage, taken l.road l.pit q)) l.before);
  few : length l.row ≤ length l.initial.row + l.before * 1;
}
