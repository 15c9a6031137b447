use Rattle.std.proofs.Common.{◌≡◌, ◌*◌, ◌≤◌, [], ◌++◌, length}
use Rattle.algebra.specs.Lists.{list_to, flat_to}
use Rattle.road_types.specs.HaulForms.{taken}
use Rattle.road_types.specs.Road.{access_count}
use Rattle.road_types.specs.RoadPrograms.{terms_of}
use Rattle.road_types.specs.declared.column.Column.TheVariants.{Access}
use Rattle.haul_rows.proofs.pits.add_all_taken.Given as goal

abbrev pub invariant-loop-before : goal.invariant-loop-before
invariant-loop-before l = record {
  terms : l.row ≡ [] ++ terms_of l.road (flat_to (λ t. list_to (λ q. (Access q t, taken l.road l.pit q)) (access_count l.road)) l.before);
  few : length l.row ≤ l.before * 16;
}
