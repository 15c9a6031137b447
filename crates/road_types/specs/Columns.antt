-- The columns of a road's program: their kinds in the order of their numbers, which begin at 1, the number of a kind, and
-- the bounds and the cost of each. Amounts are in litres, offsets and heights in mm.
use Rattle.std.specs.Prelude.{ℕ, ◌+◌, ◌-◌, ◌*◌, ◌==◌, ◌&&◌, nat_le, nat_lt, Bool, if◌then◌else◌, Option, Some, None, List, [], ◌∷◌, ◌++◌, ℤ, pos, neg_ℤ}
use Rattle.algebra.specs.Lists.{list_to, flat_to, IsEntry}
use Rattle.road_types.specs.Numbered.{numbered}
use Rattle.road_types.specs.Road.{section, hop, access, block, section_count, segment_count, hop_count, access_count, block_count, access_unit_cost}
use Rattle.road_types.specs.RecordFaults.{is_number}
use Rattle.road_types.specs.declared.road.Road.{Road}
use Rattle.road_types.specs.declared.column.Column.{Column}
use Rattle.road_types.specs.declared.column.Column.TheVariants.{A, B, C, Offset, Cut, Fill, Right, Left, Access, Opened}

-- ---- the kinds in their order

-- height, grade and curve of segment g
abbrev pub segment_columns : ℕ → List Column
segment_columns g = A g ∷ B g ∷ C g ∷ []

-- what is moved in stage t: cut and fill of all sections, hauls to the right and to the left over all hops, access roads
abbrev pub stage_columns : Road → ℕ → List Column
stage_columns road t =
    list_to (λ i. Cut i t) (section_count road)
    ++ (list_to (λ i. Fill i t) (section_count road)
    ++ (list_to (λ h. Right h t) (hop_count road)
    ++ (list_to (λ h. Left h t) (hop_count road)
    ++ list_to (λ q. Access q t) (access_count road))))

-- whether block k is opened at stage 2, 3, .. or before
abbrev pub block_columns : Road → ℕ → List Column
block_columns road k = list_to (λ before. Opened k (before + 1)) (road.stages - 1)

-- all columns: of segments, offsets of sections, of stages, of blocks
unfoldable pub columns_of : Road → List Column
columns_of road =
    flat_to segment_columns (segment_count road)
    ++ (list_to (λ i. Offset i) (section_count road)
    ++ (flat_to (stage_columns road) (road.stages)
    ++ flat_to (block_columns road) (block_count road)))

-- the column with number j is of this kind
abbrev pub IsColumn : Road → ℕ → Column → Type 0
IsColumn road j kind = IsEntry (columns_of road) j kind

-- ---- how many there are, and their numbers

-- how many columns belong to one stage
abbrev pub stage_width : Road → ℕ
stage_width road = 2 * section_count road + (2 * hop_count road + access_count road)

-- how many columns come before the offsets, the stages and the blocks

abbrev pub offsets_before : Road → ℕ
offsets_before road = 3 * segment_count road

abbrev pub stages_before : Road → ℕ
stages_before road = offsets_before road + section_count road

abbrev pub blocks_before : Road → ℕ
blocks_before road = stages_before road + road.stages * stage_width road

-- how many columns a road has
abbrev pub column_count : Road → ℕ
column_count road = blocks_before road + block_count road * (road.stages - 1)

-- the column that stands `place` behind `before` others, where there is one
abbrev pub column_at : Bool → ℕ → ℕ → Option ℕ
column_at is_there before place = if is_there then Some (before + place) else None

-- column number `place` of the three of segment g
abbrev pub segment_column : Road → ℕ → ℕ → Option ℕ
segment_column road g place = column_at (is_number g (segment_count road)) (3 * (g - 1)) place

-- column number `place` of `count`, behind `before` others of stage t
abbrev pub stage_column : Road → ℕ → ℕ → ℕ → ℕ → Option ℕ
stage_column road t before count place =
    column_at (is_number t road.stages && is_number place count) (stages_before road + ((t - 1) * stage_width road + before)) place

-- the column for block k and stage t, of which there is none at stage 1
abbrev pub block_column : Road → ℕ → ℕ → Option ℕ
block_column road k t =
    column_at (is_number k (block_count road) && (nat_le 2 t && nat_le t road.stages)) (blocks_before road + (k - 1) * (road.stages - 1)) (t - 1)

-- the number of the column of a kind, where the road has one
unfoldable pub column_number : Road → Column → Option ℕ
column_number road (A g) = segment_column road g 1
column_number road (B g) = segment_column road g 2
column_number road (C g) = segment_column road g 3
column_number road (Offset i) = column_at (is_number i (section_count road)) (offsets_before road) i
column_number road (Cut i t) = stage_column road t 0 (section_count road) i
column_number road (Fill i t) = stage_column road t (section_count road) (section_count road) i
column_number road (Right h t) = stage_column road t (2 * section_count road) (hop_count road) h
column_number road (Left h t) = stage_column road t (2 * section_count road + hop_count road) (hop_count road) h
column_number road (Access q t) = stage_column road t (2 * section_count road + 2 * hop_count road) (access_count road) q
column_number road (Opened k t) = block_column road k t

-- ---- bounds and costs

-- whether a block is opened at stage t, where its opening lies in a range: surely not, surely, or either
abbrev pub opened_bounds : ℕ × ℕ → ℕ → ℤ × ℤ
opened_bounds opening t =
    if nat_lt t opening.0 then (pos 0, pos 0) else if nat_le opening.1 t then (pos 1, pos 1) else (pos 0, pos 1)

-- the least and the greatest value in a column, where heights and openings lie in these ranges of sections and blocks
abbrev pub bounds_of : Road → List (ℤ × ℤ) → List (ℕ × ℕ) → Column → ℤ × ℤ
bounds_of road heights openings (A g) = (road.low, road.high)
bounds_of road heights openings (B g) = road.grade
bounds_of road heights openings (C g) = (neg_ℤ road.curve, road.curve)
bounds_of road heights openings (Offset i) = numbered (pos 0, pos 0) heights i
bounds_of road heights openings (Cut i t) = (pos 0, (section road i).cut_max)
bounds_of road heights openings (Fill i t) = (pos 0, (section road i).fill_max)
bounds_of road heights openings (Right h t) = (pos 0, (hop road h).right_max)
bounds_of road heights openings (Left h t) = (pos 0, (hop road h).left_max)
bounds_of road heights openings (Access q t) = (pos 0, (access road q).max)
bounds_of road heights openings (Opened k t) = opened_bounds (numbered (0, 0) openings k) t

-- what one unit in a column costs; a removal is paid at the last stage
abbrev pub unit_cost : Road → Column → ℤ
unit_cost road (A g) = pos 0
unit_cost road (B g) = pos 0
unit_cost road (C g) = pos 0
unit_cost road (Offset i) = pos 0
unit_cost road (Cut i t) = (section road i).cut_cost
unit_cost road (Fill i t) = (section road i).fill_cost
unit_cost road (Right h t) = (hop road h).right_cost
unit_cost road (Left h t) = (hop road h).left_cost
unit_cost road (Access q t) = access_unit_cost road q
unit_cost road (Opened k t) = if t == road.stages then (block road k).cost else pos 0
