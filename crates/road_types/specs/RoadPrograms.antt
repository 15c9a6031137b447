-- The program of a road over ranges of offsets and openings, how many rows it has, and the weight of a road. Rows and columns
-- are numbered from 1.
use Rattle.std.specs.Prelude.{ℕ, ◌+◌, ◌-◌, ◌*◌, ◌++◌, Option, Some, None, if◌then◌else◌, List, [], ◌∷◌, map, ℤ, pos}
use Rattle.std.specs.Ordering.{int_eq}
use Rattle.programs.specs.Programs.{Program, ProgramRow}
use Rattle.programs.specs.Weights.{weight}
use Rattle.road_types.specs.Road.{section, section_count, segment_count, fixed_count, pit_count, block_count}
use Rattle.road_types.specs.Ranges.{height_range, whole_ranges, whole_openings}
use Rattle.road_types.specs.Columns.{columns_of, column_number, bounds_of, unit_cost}
use Rattle.road_types.specs.Forms.{Form}
use Rattle.road_types.specs.Lines.{Lines, lines_over, heaviest_lines}
use Rattle.road_types.specs.SectionForms.{section_forms}
use Rattle.road_types.specs.HaulForms.{haul_forms}
use Rattle.road_types.specs.declared.road.Road.{Road}
use Rattle.road_types.specs.declared.column.Column.{Column}
use Rattle.term_store.specs.declared.term.Term.{Term}

-- ---- from forms to rows

-- the term in a column, where there is one and the coefficient isn't 0
abbrev pub term_in : Option ℕ → ℤ → List (Term ℤ)
term_in None coefficient = []
term_in (Some j) coefficient = if int_eq coefficient (pos 0) then [] else record { column = j; value = coefficient } ∷ []

-- the terms of coefficients at kinds
abbrev pub terms_of : Road → List (Column × ℤ) → List (Term ℤ)
terms_of road [] = []
terms_of road (entry ∷ entries) = term_in (column_number road entry.0) entry.1 ++ terms_of road entries

-- the row of a form
abbrev pub row_of : Road → Form → ProgramRow
row_of road form = record { terms = terms_of road form.entries; side = form.side; right = form.right }

-- ---- the program

-- the forms of all rows, where `lines` gives each section's lines
abbrev pub forms_of : Road → (ℕ → Lines) → List Form
forms_of road lines = section_forms road lines ++ haul_forms road

-- the lines of each section over its range of offsets
abbrev pub lines_in : Road → List (ℤ × ℤ) → ℕ → Lines
lines_in road heights i = lines_over (section road i) (height_range heights i)

-- the program with these ranges of offsets and of openings for bounds, and these lines
abbrev pub program_with : Road → List (ℤ × ℤ) → List (ℕ × ℕ) → (ℕ → Lines) → Program
program_with road heights openings lines = record {
  bounds = map (bounds_of road heights openings) (columns_of road);
  costs = map (unit_cost road) (columns_of road);
  rows = map (row_of road) (forms_of road lines);
}

-- the program of a road, where the offset of each section and the opening of each block lie in these ranges
abbrev pub road_program : Road → List (ℤ × ℤ) → List (ℕ × ℕ) → Program
road_program road heights openings = program_with road heights openings (lines_in road heights)

-- ---- its size and weight

-- how many rows there are for heights and volumes
abbrev pub section_row_count : Road → ℕ
section_row_count road =
    section_count road + 2 * (segment_count road - 1) + 2 * segment_count road + 2 * fixed_count road + 4 * section_count road

-- how many there are for what is moved
abbrev pub haul_row_count : Road → ℕ
haul_row_count road =
    road.stages * section_count road + pit_count road + block_count road * road.stages
    + block_count road * (2 * (road.stages - 1)) + block_count road * (road.stages - 2)

-- how many rows a road has
abbrev pub row_count : Road → ℕ
row_count road = section_row_count road + haul_row_count road

-- the weight of a road: of its program over all offsets and openings, with its heaviest lines
unfoldable pub road_weight : Road → ℕ
road_weight road = weight (program_with road (whole_ranges road) (whole_openings road) (λ i. heaviest_lines (section road i)))
