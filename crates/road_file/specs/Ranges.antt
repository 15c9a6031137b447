-- The ranges of a road file's numbers and the forms of its texts, whose break is F6.
use Rattle.std.specs.Prelude.{ℕ, nat_le, codes, pos, Bool, true, ◌&&◌, ◌||◌, List, length, Option, Some, None}
use Rattle.std.specs.List.{list_all}
use Rattle.std.specs.Str.{bytes_eq}
use Rattle.road_types.specs.RecordFaults.{is_between, is_station, is_height, is_curve, is_cost, is_cap, is_step, is_name, section_in_range, hop_in_range, fixed_in_range, grades_in_range}
use Rattle.road_file.specs.declared.file.FilePit.{FilePit}
use Rattle.road_file.specs.declared.file.FileAccess.{FileAccess}
use Rattle.road_file.specs.declared.file.FileBlock.{FileBlock}
use Rattle.road_file.specs.declared.file.RoadFile.{RoadFile}

abbrev pub is_borrow : List ℕ → Bool
is_borrow kind = bytes_eq kind (codes "borrow")

abbrev pub is_kind : List ℕ → Bool
is_kind kind = is_borrow kind || bytes_eq kind (codes "waste")

abbrev pub pit_in_range : FilePit → Bool
pit_in_range p = is_name p.name && is_kind p.kind && is_cap p.capacity && is_cost p.cost

-- the section of an access road or a block is any whole number here, and the pit of an access road any text
abbrev pub access_in_range : FileAccess → Bool
access_in_range a = is_cost a.cost && is_cap a.max

abbrev pub block_in_range : FileBlock → Bool
block_in_range b = is_cost b.cost

-- the name of a section table has 1 to 255 bytes
abbrev pub is_table_name : List ℕ → Bool
is_table_name name = nat_le 1 (length name) && nat_le (length name) 255

abbrev pub table_in_range : Option (List ℕ) → Bool
table_in_range None = true
table_in_range (Some name) = is_table_name name

abbrev pub lists_in_range : RoadFile → Bool
lists_in_range file =
    list_all section_in_range file.sections && list_all hop_in_range file.hops && list_all fixed_in_range file.fixed
    && list_all pit_in_range file.pits && list_all access_in_range file.roads && list_all block_in_range file.blocks

abbrev pub scales_in_range : RoadFile → Bool
scales_in_range file =
    is_between (pos 1) (pos 1) file.version && is_step file.step && is_between (pos 1) (pos 4) file.stages && list_all is_station file.knots

abbrev pub limits_in_range : RoadFile → Bool
limits_in_range file = is_height file.low && is_height file.high && grades_in_range file.grade && is_curve file.curve

-- every number is within its range and every text of its form; budgets are any whole numbers here
unfoldable pub file_in_range : RoadFile → Bool
file_in_range file = scales_in_range file && limits_in_range file && table_in_range file.table && lists_in_range file
