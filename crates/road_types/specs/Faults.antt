-- The first fault of a road: of its record, or else of its size.
use Rattle.std.specs.Prelude.{◌^◌, nat_le, Bool, ◌&&◌, Option, Some, None, [], ◌∷◌}
use Rattle.road_types.specs.declared.fault.Fault.{Fault}
use Rattle.road_types.specs.declared.fault.Fault.TheVariants.{F17, F18}
use Rattle.road_types.specs.declared.road.Road.{Road}
use Rattle.road_types.specs.RecordFaults.{first_broken, record_fault}
use Rattle.road_types.specs.Columns.{column_count}
use Rattle.road_types.specs.RoadPrograms.{row_count, road_weight}

-- the first of two faults, the second of which is looked at where there is no first one
abbrev pub fault_or : Option Fault → Option Fault → Option Fault
fault_or (Some fault) later = Some fault
fault_or None later = later

-- at most 600 rows and at most 1,000 columns
abbrev pub is_sized : Road → Bool
is_sized road = nat_le (row_count road) 600 && nat_le (column_count road) 1000

-- a weight of at most 2^46
abbrev pub is_light : Road → Bool
is_light road = nat_le (road_weight road) (2 ^ 46)

-- the fault of a road whose size or weight is past a limit
unfoldable pub size_fault : Road → Option Fault
size_fault road = first_broken ((is_sized road, F17) ∷ (is_light road, F18) ∷ [])

-- the fault that answers for a road
unfoldable pub road_fault : Road → Option Fault
road_fault road = fault_or (record_fault road) (size_fault road)
