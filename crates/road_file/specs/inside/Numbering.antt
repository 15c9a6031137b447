-- A map from names to the numbers of pits.
use Rattle.std.specs.Prelude.{◌≡◌, ℕ, List, unwrap_or}
use Rattle.std.specs.Str.{bytes_eq}
use Rattle.std.specs.Borrow.{Bor}
use Rattle.indexmap.specs.IndexMap.{IndexMap, get_by}
use Rattle.road_file.specs.declared.file.FilePit.{FilePit}
use Rattle.road_file.specs.Names.{pit_number}

-- a map has the number of every name that a pit has, and no other name
abbrev pub IsNumbering : {S : Type 0} → List FilePit → IndexMap (Bor (List ℕ)) ℕ S → Type 0
IsNumbering pits numbers = (name : List ℕ) → unwrap_or (get_by (λ k. bytes_eq name k.now) numbers) 0 ≡ pit_number name pits
