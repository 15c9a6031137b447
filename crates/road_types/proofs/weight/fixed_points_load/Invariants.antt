use Rattle.std.proofs.Common.{◌≡◌, ◌*◌, ◌^◌, ◌≤◌}
use Rattle.algebra.specs.Totals.{total_to}
use Rattle.road_types.specs.inside.Loads.{fixed_load}
use Rattle.road_types.proofs.weight.fixed_points_load.Given as goal

abbrev pub invariant-loop-before : goal.invariant-loop-before
invariant-loop-before l = record { value : l.total ≡ total_to (fixed_load l.road) l.before; small : l.total ≤ l.before * 2 ^ 110 }
