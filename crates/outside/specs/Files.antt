-- The files of a store: bytes by name, where the store tells them.
--     Files      a finite map from the bytes of a name to the bytes of a file
--     FirstBytes files name most bytes      what a read gives
--     LacksFile files name      no file has the name
--     with_file files name bytes      the named file holds exactly the bytes, and each other file is as it was
--     KeepsOrCuts old name bytes new      what a write that failed leaves
use Rattle.std.specs.Prelude.{◌≡◌, ◌⊎◌, ℕ, ◌≤◌, List, length, take, Option, Some, None, IfSome}
use Rattle.std.specs.Option.{option_map}
use Rattle.std.specs.Ordering.{nat_cmp}
use Rattle.std.specs.Cmp.Lexicographic.{slice_cmp}
use Rattle.std.specs.FinMap.{FinMap, get, insert}

-- bytes of files by the bytes of their names
abbrev pub Files : Type 0
Files = FinMap (slice_cmp nat_cmp) (List ℕ)

-- where files are told: these are the first `most` bytes of the named file, or all where it is shorter
abbrev pub FirstBytes : Option Files → List ℕ → ℕ → List ℕ → Type 0
FirstBytes told name most bytes = IfSome told (λ files. option_map (take most) (get files name) ≡ Some bytes)

-- where files are told: none has the name
abbrev pub LacksFile : Option Files → List ℕ → Type 0
LacksFile told name = IfSome told (λ files. get files name ≡ None)

-- the files once the named one holds exactly the bytes
abbrev pub with_file : Option Files → List ℕ → List ℕ → Option Files
with_file told name bytes = option_map (λ files. insert files name bytes) told

-- each other file is as before, and the named one is as before or holds a prefix of the bytes
abbrev pub KeepsOrCuts : Option Files → List ℕ → List ℕ → Option Files → Type 0
KeepsOrCuts old name bytes new = (new ≡ old) ⊎ ((n : ℕ) × (n ≤ length bytes) × (new ≡ with_file old name (take n bytes)))
