-- An accepted road: one for which no fault answers.
use Rattle.std.specs.Prelude.{◌^◌, ◌≤◌}
use Rattle.road_types.specs.Columns.{column_count}
use Rattle.road_types.specs.RoadPrograms.{row_count, road_weight}
use Rattle.road_types.specs.declared.road.Road.{Road}
use Rattle.road_types.specs.WellFormed.{IsWellFormed}

-- a road without a fault
pub record IsAccepted (road : Road) : Type 0 where
  pub well_formed : IsWellFormed road
  pub rows : row_count road ≤ 600
  pub columns : column_count road ≤ 1000
  pub light : road_weight road ≤ 2 ^ 46
