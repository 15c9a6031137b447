-- A section table: its first record names the eight columns, and each further record is a section.
use Rattle.std.specs.Prelude.{ℕ, nat_le, ◌==◌, ℤ, List, [], ◌∷◌, length, Option, Some, None, Bool, false, ◌&&◌, codes}
use Rattle.std.specs.Str.{bytes_eq}
use Rattle.csv.specs.Reading.{records, default_config, strip_bom}
use Rattle.csv.specs.Records.{field_at}
use Rattle.road_types.specs.Limits.{longest_file}
use Rattle.road_types.specs.RecordFaults.{is_station, is_height, is_cost, is_cap}
use Rattle.road_types.specs.declared.road.Section.{Section}
use Rattle.section_tables.specs.Steps.{◌>>=◌, where_kept, each}
use Rattle.section_tables.specs.Cells.{number_in, slabs_of}

-- the height of the ground at a section, in mm
abbrev ground : Section → ℤ
ground s = s.ground

-- what is found in the cell at a place of a record, counted from 0
unfoldable pub cell_at : {A : Type 0} → (List ℕ → Option A) → ℕ → List (List ℕ) → Option A
cell_at find place cells = field_at cells place >>= find

-- so many columns
abbrev pub cell_count : ℕ
cell_count = 8

-- a section's costs, in cost units per litre, and its caps, in litres
unfoldable pub section_of : List (List ℕ) → Option Section
section_of fields = do
  cells ← where_kept (length fields == cell_count) fields
  station ← cell_at (number_in is_station) 0 cells
  height ← cell_at (number_in is_height) 1 cells
  cut ← cell_at slabs_of 2 cells
  fill ← cell_at slabs_of 3 cells
  cut_cost ← cell_at (number_in is_cost) 4 cells
  fill_cost ← cell_at (number_in is_cost) 5 cells
  cut_max ← cell_at (number_in is_cap) 6 cells
  fill_max ← cell_at (number_in is_cap) 7 cells
  Some (record { station = station; ground = height; cut = cut; fill = fill; cut_cost = cut_cost; fill_cost = fill_cost; cut_max = cut_max; fill_max = fill_max })

-- the cell at a place has this name
abbrev pub has_name : Option (List ℕ) → List ℕ → Bool
has_name None name = false
has_name (Some cell) name = bytes_eq cell name

abbrev pub names_places : List (List ℕ) → Bool
names_places cells =
    has_name (field_at cells 0) (codes "station") && has_name (field_at cells 1) (codes "ground")
    && has_name (field_at cells 2) (codes "cut") && has_name (field_at cells 3) (codes "fill")

abbrev pub names_prices : List (List ℕ) → Bool
names_prices cells =
    has_name (field_at cells 4) (codes "cut_cost") && has_name (field_at cells 5) (codes "fill_cost")
    && has_name (field_at cells 6) (codes "cut_max") && has_name (field_at cells 7) (codes "fill_max")

-- a record that names the eight columns in their order
unfoldable pub is_header : List (List ℕ) → Bool
is_header cells = (length cells == cell_count) && names_places cells && names_prices cells

-- the sections in a table's records
unfoldable pub sections_in : List (List (List ℕ)) → Option (List Section)
sections_in [] = None
sections_in (header ∷ rows) = where_kept (is_header header) rows >>= each section_of

-- the sections of a table of at most so many bytes; a byte order mark before it is passed over
unfoldable pub sections_of : List ℕ → Option (List Section)
sections_of bytes = where_kept (nat_le (length bytes) longest_file) bytes >>= (λ text. sections_in (records default_config (strip_bom text)))
