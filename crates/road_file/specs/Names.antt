-- The numbers of pits by their names.
use Rattle.std.specs.Prelude.{ℕ, suc, if◌then◌else◌, List, [], ◌∷◌}
use Rattle.std.specs.Str.{bytes_eq}
use Rattle.road_file.specs.declared.file.FilePit.{FilePit}

-- the number of the first pit with a name, where the numbers begin with this one; 0 where no pit has the name
unfoldable pub number_from : ℕ → List ℕ → List FilePit → ℕ
number_from first name [] = 0
number_from first name (p ∷ pits) = if bytes_eq p.name name then first else number_from (suc first) name pits

unfoldable pub pit_number : List ℕ → List FilePit → ℕ
pit_number name pits = number_from 1 name pits
