-- What one cell of a section table says: a number within a range, or a list of slabs.
use Rattle.std.specs.Prelude.{ℕ, ℤ, List, [], ◌∷◌, Option, Some, None, Bool}
use Rattle.text_parts.specs.Words.{parts_between, words_of}
use Rattle.text_parts.specs.Decimal.{whole_of}
use Rattle.road_types.specs.RecordFaults.{is_measure}
use Rattle.road_types.specs.declared.road.Slab.{Slab}
use Rattle.section_tables.specs.Steps.{◌>>=◌, where_kept, each}

-- the byte between a slab's thickness and its area
abbrev pub colon : ℕ
colon = 58

-- the number that a cell spells, where it is within the range
unfoldable pub number_in : (ℤ → Bool) → List ℕ → Option ℤ
number_in is_in_range cell = do
  number ← whole_of cell
  where_kept (is_in_range number) number

-- a slab by its two parts, in mm and m²
unfoldable pub slab_by : List (List ℕ) → Option Slab
slab_by (thick ∷ area ∷ []) = do
  t ← number_in is_measure thick
  a ← number_in is_measure area
  Some (record { thick = t; area = a })
slab_by parts = None

-- a slab is its thickness and its area, parted by a colon
unfoldable pub slab_of : List ℕ → Option Slab
slab_of word = slab_by (parts_between colon word)

-- an empty cell has no slabs, another cell has slabs from the ground away, parted by single spaces
unfoldable pub slabs_of : List ℕ → Option (List Slab)
slabs_of [] = Some []
slabs_of (b ∷ bs) = each slab_of (words_of (b ∷ bs))
