-- The plan that the lines at the front spell, form after form, and the plan whose text some bytes are.
use Rattle.std.specs.Prelude.{ℕ, ◌≡◌, ◌+◌, ◌-◌, List, [], ◌∷◌, ◌++◌, map, ℤ, pos, codes, slice_index_or, unsigned_abs, Result, Ok, Err}
use Rattle.text_parts.specs.Lines.{TextLine, Reading, lines_of}
use Rattle.road_types.specs.declared.road.Road.{Road}
use Rattle.road_types.specs.Road.{section_count, segment_count, access_count, block_count}
use Rattle.plan_rules.specs.declared.plan.Piece.{Piece}
use Rattle.plan_rules.specs.declared.plan.Plan.{Plan}
use Rattle.plan_text.specs.declared.error.TextErr.{TextErr}
use Rattle.plan_text.specs.declared.error.TextErr.TheVariants.{Bad, NoMemory}
use Rattle.plan_text.specs.LineForms.{short_numbers, den_form, piece_form, opens_form, end_form}
use Rattle.plan_text.specs.inside.LineReading.{Read, ◌>>=◌, give, numbers_due, repeat_due}
use Rattle.plan_text.specs.declared.rows.Rows.{Rows}
use Rattle.plan_text.specs.declared.rows.Stage.{Stage}
use Rattle.plan_text.specs.declared.rows.Tables.{Tables}

-- the number in a list of at least so many
abbrev pub nth : List ℤ → ℕ → ℤ
nth numbers i = slice_index_or numbers i (pos 0)

-- the denominator, on the first line
unfoldable pub den_due : Read ℤ
den_due = do
  numbers ← numbers_due den_form
  give (nth numbers 0)

-- the height of a segment, on a line
unfoldable pub piece_due : Read Piece
piece_due = do
  numbers ← numbers_due piece_form
  give (record { a = nth numbers 0; b = nth numbers 1; c = nth numbers 2 })

-- the openings of so many blocks, on a line
unfoldable pub opens_due : ℕ → Read (List ℕ)
opens_due blocks = do
  numbers ← numbers_due (opens_form blocks)
  give (map unsigned_abs numbers)

-- the five lines of a stage
unfoldable pub stage_due : Road → Read Stage
stage_due road = do
  cut ← numbers_due (short_numbers (codes "cut") (section_count road))
  fill ← numbers_due (short_numbers (codes "fill") (section_count road))
  right ← numbers_due (short_numbers (codes "right") (section_count road - 1))
  left ← numbers_due (short_numbers (codes "left") (section_count road - 1))
  roads ← numbers_due (short_numbers (codes "roads") (access_count road))
  give (record { cut = cut; fill = fill; right = right; left = left; roads = roads })

-- the last of some rows, or this one
abbrev pub last_row_or : List ℤ → List (List ℤ) → List ℤ
last_row_or row [] = row
last_row_or row (next ∷ rows) = last_row_or next rows

-- the last of some rows
abbrev pub last_row : List (List ℤ) → List ℤ
last_row rows = last_row_or [] rows

-- a table with one row more at its end
abbrev pub HasOneMore : List (List ℤ) → List (List ℤ) → Type 0
HasOneMore before after = after ≡ before ++ (last_row after ∷ [])

-- the stage whose rows were read last
abbrev pub last_stage : Rows → Stage
last_stage rows =
    record { cut = last_row rows.cut.items; fill = last_row rows.fill.items; right = last_row rows.right.items; left = last_row rows.left.items; roads = last_row rows.roads.items }

-- the tables whose rows these are
abbrev pub tables_by_stage : List Stage → Tables
tables_by_stage stages =
    record { cut = map (λ s. s.cut) stages; fill = map (λ s. s.fill) stages; right = map (λ s. s.right) stages; left = map (λ s. s.left) stages; roads = map (λ s. s.roads) stages }

-- the tables, stage by stage
unfoldable pub tables_due : Road → Read Tables
tables_due road = do
  stages ← repeat_due road.stages (stage_due road)
  give (tables_by_stage stages)

-- a plan of the road, of which each line has the form due at its place
unfoldable pub plan_due : Road → Read Plan
plan_due road = do
  den ← den_due
  pieces ← repeat_due (segment_count road) piece_due
  tables ← tables_due road
  opens ← opens_due (block_count road)
  nothing ← numbers_due end_form
  give (record { den = den; pieces = pieces; cut = tables.cut; fill = tables.fill; right = tables.right; left = tables.left; roads = tables.roads; opens = opens })

-- the reader of a text from its first line on
abbrev pub start_of : List ℕ → Reading
start_of bytes = record { source = bytes; number = 0; left = lines_of 0 bytes }

-- the plan, where no line is left behind it, else the number of the first of these
abbrev pub with_nothing_left : Plan → ℕ → List TextLine → Result Plan ℕ
with_nothing_left plan number [] = Ok plan
with_nothing_left plan number (line ∷ lines) = Err (number + 1)

abbrev pub whole_plan : Result (Plan × Reading) ℕ → Result Plan ℕ
whole_plan (Err line) = Err line
whole_plan (Ok read) = with_nothing_left read.0 read.1.number read.1.left

-- the plan whose text the bytes are, or the number of the line that is refused
unfoldable pub plan_of_text : Road → List ℕ → Result Plan ℕ
plan_of_text road bytes = whole_plan (plan_due road (start_of bytes))

-- an answer is the plan, or the line that is refused; after want of memory nothing is said
abbrev pub GivesPlan : Result Plan ℕ → Result Plan TextErr → Type 0
GivesPlan due (Ok plan) = due ≡ Ok plan
GivesPlan due (Err (Bad line)) = due ≡ Err line
GivesPlan due (Err NoMemory) = Unit {0}
