-- How a store in memory keeps what it knows of each name: one entry a name.
--     NamedFile      the name, its file where there is one, and the room made for it where some was made
--     is_named name entry      the entry has the name
--     map_of part entries      the map that the entries stand for. The first entry with a name decides
--     files_of, rooms_of      the maps of files and of rooms
--     IsFirstEntry name entries i, HasNone name entries      the entry at i, counted from 0, is the first with the name; none has it
use Rattle.std.specs.Prelude.{◌≡◌, ℕ, ◌<◌, Bool, false, List, [], ◌∷◌, length, slice_index_or, Option, Some, None}
use Rattle.std.specs.Ordering.{nat_cmp, eq_by_cmp}
use Rattle.std.specs.Cmp.Lexicographic.{slice_cmp}
use Rattle.std.specs.FinMap.{FinMap, empty, insert, remove}

-- what is kept of one name
pub record NamedFile : Type 0 where
  pub name : List ℕ
  pub file : Option (List ℕ)
  pub room : Option ℕ

-- a name without a file or room
abbrev pub unused : List ℕ → NamedFile
unused name = record { name = name; file = None; room = None }

-- the entry has the name
abbrev pub is_named : List ℕ → NamedFile → Bool
is_named name entry = eq_by_cmp (slice_cmp nat_cmp) name entry.name

-- the map with this at the name, or with nothing
abbrev pub with_part : {V : Type 0} → FinMap (slice_cmp nat_cmp) V → List ℕ → Option V → FinMap (slice_cmp nat_cmp) V
with_part map name (Some value) = insert map name value
with_part map name None = remove map name

-- the map of what the first entry with each name has
abbrev pub map_of : {V : Type 0} → (NamedFile → Option V) → List NamedFile → FinMap (slice_cmp nat_cmp) V
map_of part [] = empty
map_of part (entry ∷ entries) = with_part (map_of part entries) entry.name (part entry)

-- the file of each name that has one
abbrev pub files_of : List NamedFile → FinMap (slice_cmp nat_cmp) (List ℕ)
files_of entries = map_of (λ entry. entry.file) entries

-- the room made for each name for which some was made
abbrev pub rooms_of : List NamedFile → FinMap (slice_cmp nat_cmp) ℕ
rooms_of entries = map_of (λ entry. entry.room) entries

-- no entry below i has the name
abbrev pub NoneBefore : List ℕ → List NamedFile → ℕ → Type 0
NoneBefore name entries i = (k : ℕ) → k < i → is_named name (slice_index_or entries k (unused name)) ≡ false

-- no entry has the name
abbrev pub HasNone : List ℕ → List NamedFile → Type 0
HasNone name entries = NoneBefore name entries (length entries)

-- the entry at this index, counted from 0, is the first with the name
pub record IsFirstEntry (name : List ℕ) (entries : List NamedFile) (i : ℕ) : Type 0 where
  pub within : i < length entries
  pub named : (slice_index_or entries i (unused name)).name ≡ name
  pub before : NoneBefore name entries i
