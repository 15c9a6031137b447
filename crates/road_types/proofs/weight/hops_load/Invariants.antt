use Rattle.std.proofs.Common.{◌≡◌, ◌*◌, ◌^◌, ◌≤◌}
use Rattle.algebra.specs.Totals.{total_to}
use Rattle.road_types.specs.Road.{hop}
use Rattle.road_types.specs.inside.Loads.{hop_load}
use Rattle.road_types.proofs.weight.hops_load.Given as goal

abbrev pub invariant-loop-before : goal.invariant-loop-before
invariant-loop-before l = record { value : l.total ≡ total_to (λ h. hop_load l.road (hop l.road h)) l.before; small : l.total ≤ l.before * 2 ^ 110 }
