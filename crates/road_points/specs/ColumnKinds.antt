-- The kinds of column that a road has, by the numbers in them.
use Rattle.std.specs.Prelude.{◌≤◌}
use Rattle.road_types.specs.Numbered.{IsNumber}
use Rattle.road_types.specs.Road.{section_count, segment_count, hop_count, access_count, block_count}
use Rattle.road_types.specs.declared.road.Road.{Road}
use Rattle.road_types.specs.declared.column.Column.{Column}
use Rattle.road_types.specs.declared.column.Column.TheVariants.{A, B, C, Offset, Cut, Fill, Right, Left, Access, Opened}

-- the road has a column of this kind
abbrev pub IsKindOf : Road → Column → Type 0
IsKindOf road (A g) = IsNumber g (segment_count road)
IsKindOf road (B g) = IsNumber g (segment_count road)
IsKindOf road (C g) = IsNumber g (segment_count road)
IsKindOf road (Offset i) = IsNumber i (section_count road)
IsKindOf road (Cut i t) = IsNumber i (section_count road) × IsNumber t road.stages
IsKindOf road (Fill i t) = IsNumber i (section_count road) × IsNumber t road.stages
IsKindOf road (Right h t) = IsNumber h (hop_count road) × IsNumber t road.stages
IsKindOf road (Left h t) = IsNumber h (hop_count road) × IsNumber t road.stages
IsKindOf road (Access q t) = IsNumber q (access_count road) × IsNumber t road.stages
IsKindOf road (Opened k t) = IsNumber k (block_count road) × ((2 ≤ t) × (t ≤ road.stages))
