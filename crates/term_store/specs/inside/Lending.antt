-- How a store holds its rows: in a list, but for one that is kept apart so that it can be lent.
use Rattle.std.specs.Prelude.{ℕ, ◌<◌, ◌≤◌, min, List, map, length, take, slice_set}
use Rattle.std.specs.List.{All}
use Rattle.term_store.specs.HeldRow.{HeldRow}
use Rattle.term_store.specs.HeldRows.{HeldRows}

module _ {X : Type 0} where
  -- the rows that are in use: the first ones, with the row that is kept apart put at its place
  abbrev pub rows_in_use : ℕ → List (HeldRow X) → ℕ → HeldRow X → List (List X)
  rows_in_use count rows place kept = take count (map (λ r. r.terms) (slice_set rows place kept))

  -- what is seen of a store whose list of rows is `rows`, while the row of `place` is kept apart
  abbrev pub seen : ℕ → ℕ → List (HeldRow X) → ℕ → HeldRow X → HeldRows X
  seen count width rows place kept = record {
    rows = rows_in_use count rows place kept;
    room = length rows;
    width = min width kept.room;
  }

  -- every row has room for that many terms
  abbrev pub AllHaveRoom : ℕ → List (HeldRow X) → Type 0
  AllHaveRoom width rows = All (λ r. width ≤ r.room) rows

  -- the rows in use are among the list's, the place is one of the list, and its rows are wide enough
  abbrev pub IsInOrder : ℕ → ℕ → List (HeldRow X) → ℕ → Type 0
  IsInOrder count width rows place =
      (count ≤ length rows) × ((0 < length rows → place < length rows) × AllHaveRoom width rows)
