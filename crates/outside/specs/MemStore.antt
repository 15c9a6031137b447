-- What contracts see of a store in memory.
--     MemoryStore      its files, the rooms made in it, its calls and its numbers of faults
--     room_with room bytes      the room that stands once room for so many bytes was asked for
--     FitsRoom rooms name bytes, LacksRoom rooms name bytes      room was made for the name, and the bytes fit it; or not
use Rattle.std.specs.Prelude.{ℕ, ◌<◌, ◌≤◌, max, List, length, Option, unwrap_or, IsSomeAnd, MatchOption, ⊤, refl}
use Rattle.std.specs.Coded.{Coded, code_by, coded×, coded_ℕ, coded_list}
use Rattle.std.specs.Ordering.{nat_cmp}
use Rattle.std.specs.Cmp.Lexicographic.{slice_cmp}
use Rattle.std.specs.FinMap.{FinMap, get, code}
use Rattle.outside.specs.Files.{Files}

-- the room made for each name, in bytes
abbrev pub Rooms : Type 0
Rooms = FinMap (slice_cmp nat_cmp) ℕ

-- all that a store in memory knows
pub record MemoryStore : Type 0 where
  pub files : Files
  pub rooms : Rooms
  -- calls of `read` and `write` so far
  pub calls : ℕ
  -- the numbers of the calls that fail, counted from 1
  pub fails : List ℕ
  pub read_faults : ℕ
  pub write_faults : ℕ

-- the room that stands once room for so many bytes was asked for
abbrev pub room_with : Option ℕ → ℕ → ℕ
room_with room bytes = max (unwrap_or room 0) bytes

-- room was made for the name, and the bytes fit it
abbrev pub FitsRoom : Rooms → List ℕ → List ℕ → Type 0
FitsRoom rooms name bytes = IsSomeAnd (get rooms name) (λ room. length bytes ≤ room)

-- no room was made for the name, or less than the bytes take
abbrev pub LacksRoom : Rooms → List ℕ → List ℕ → Type 0
LacksRoom rooms name bytes = MatchOption (get rooms name) ⊤ (λ room. room < length bytes)

-- a store is kept as the pair of its maps, and the tuple of the rest
abbrev pub memory_store_code : Coded MemoryStore
memory_store_code =
    code_by ((Files × Rooms) × (ℕ × (List ℕ × (ℕ × ℕ))))
    (coded× (coded× (code (coded_list coded_ℕ) (coded_list coded_ℕ)) (code (coded_list coded_ℕ) coded_ℕ)) (coded× coded_ℕ (coded× (coded_list coded_ℕ) (coded× coded_ℕ coded_ℕ))))
    (λ s. ((s.files, s.rooms), (s.calls, (s.fails, (s.read_faults, s.write_faults)))))
    (λ p. record { files = p.0.0; rooms = p.0.1; calls = p.1.0; fails = p.1.1.0; read_faults = p.1.1.1.0; write_faults = p.1.1.1.1 })
    (λ _. refl)
