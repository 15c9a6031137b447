use Rattle.std.proofs.Common.{◌≡◌, ◌+◌, ◌≤◌, ◌++◌, length, take}
use Rattle.road_types.specs.RoadPrograms.{terms_of}
use Rattle.form_rows.proofs.row.FormRow.add_all.Given as goal

abbrev pub invariant-loop-kind : goal.invariant-loop-kind
invariant-loop-kind l = record {
  terms : l.self ≡ l.initial.self ++ terms_of l.road (take l.kind-index l.entries);
  few : length l.self ≤ length l.initial.self + l.kind-index;
}
