-- The trial road of every number is accepted.
use Rattle.std.proofs.Common.{◌≡◌, ℕ, ◌+◌, ◌*◌, ◌%◌, ◌<◌, ◌≤◌, None, arith, refl}
use Rattle.std.proofs.Math.Nat.{mod-lt}
use Rattle.road_types.specs.Road.{section_count, hop_count}
use Rattle.road_types.specs.Columns.{column_count}
use Rattle.road_types.specs.RoadPrograms.{row_count}
use Rattle.road_types.specs.Accepted.{IsAccepted}
use Rattle.road_types.specs.Faults.{road_fault}
use Rattle.road_types.proofs.AcceptedRoad.{road_fault-none}
use Rattle.trial_roads.specs.TrialRoads.{road_of_size, trial_road}
use Rattle.trial_roads.proofs.TrialFacts.{count, hops, well_formed}
use Rattle.trial_roads.proofs.TrialWeights.{light}

module _ (n number : ℕ) (from : 8 ≤ n) (to : n ≤ 24) where
  rows_is : row_count (road_of_size n number)
      ≡ (section_count (road_of_size n number) + 2 * 1 + 2 * 2 + 2 * 0 + 4 * section_count (road_of_size n number))
      + (2 * section_count (road_of_size n number) + 2 + 1 * 2 + 1 * (2 * 1) + 1 * 0)
  unfolding road_of_size
  rows_is = refl

  columns_is : column_count (road_of_size n number)
      ≡ ((3 * 2 + section_count (road_of_size n number))
      + 2 * (2 * section_count (road_of_size n number) + (2 * hop_count (road_of_size n number) + 2))) + 1 * 1
  unfolding road_of_size
  columns_is = refl

  accepted : IsAccepted (road_of_size n number)
  accepted = record {
    well_formed = well_formed n number from to;
    rows = omega (arith, rows_is, count n number from to, to);
    columns = omega (arith, columns_is, count n number from to, hops n number from to, to);
    light = light n number from to;
  }

pub trial_road_has_no_fault : (number : ℕ) → road_fault (trial_road number) ≡ None
trial_road_has_no_fault number =
    let rest : number % 17 < 17 = mod-lt number (omega arith) in
    road_fault-none (trial_road number) (accepted (8 + number % 17) number (omega arith) (omega (arith, rest)))
