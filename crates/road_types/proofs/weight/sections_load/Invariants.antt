use Rattle.std.proofs.Common.{◌≡◌, ◌*◌, ◌^◌, ◌≤◌}
use Rattle.algebra.specs.Totals.{total_to}
use Rattle.road_types.specs.Road.{section}
use Rattle.road_types.specs.inside.Loads.{section_load}
use Rattle.road_types.proofs.weight.sections_load.Given as goal

abbrev pub invariant-loop-before : goal.invariant-loop-before
invariant-loop-before l = record { value : l.total ≡ total_to (λ i. section_load l.road (section l.road i)) l.before; small : l.total ≤ l.before * 2 ^ 110 }
