-- the number that was found, or the number among the pits that are left, is the number of a name
use Rattle.std.proofs.Common.{◌≡◌, ◌+◌, ℕ, List, drop}
use Rattle.std.specs.Str.{bytes_eq}
use Rattle.indexmap.specs.IndexMap.{get_by}
use Rattle.road_file.specs.Names.{number_from, pit_number}
use Rattle.road_file.proofs.NamesLemmas.{found_or}
use Rattle.road_file.proofs.reader.numbering.Given as goal

abbrev pub invariant-loop-index : goal.invariant-loop-index
invariant-loop-index l =
    (name : List ℕ) → found_or (get_by (λ k. bytes_eq name k.now) l.numbers) (number_from (l.index + 1) name (drop l.index l.pits)) ≡ pit_number name l.pits
