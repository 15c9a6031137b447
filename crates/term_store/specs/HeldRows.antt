-- What contracts see of a store of rows, and what a write through the view of one row leaves.
use Rattle.std.specs.Prelude.{◌≡◌, ℕ, ◌≤◌, min, List, [], length, slice_set, slice_index_or, refl}
use Rattle.std.specs.List.{All}
use Rattle.std.specs.Coded.{Coded, code_by, coded×, coded_ℕ, coded_list}
use Rattle.term_store.specs.HeldRow.{HeldRow}

-- the rows, in their order, how many rows there is room for, and how many terms each of them has room for
pub record HeldRows (X : Type 0) : Type 0 where
  pub rows : List (List X)
  pub room : ℕ
  pub width : ℕ

-- a store is stored as the triple of its fields
abbrev pub held_rows_code : {X : Type 0} → Coded X → Coded (HeldRows X)
held_rows_code {X} code =
    code_by (List (List X) × (ℕ × ℕ)) (coded× (coded_list (coded_list code)) (coded× coded_ℕ coded_ℕ))
    (λ s. (s.rows, (s.room, s.width)))
    (λ p. record { rows = p.0; room = p.1.0; width = p.1.1 }) (λ _. refl)

module _ {X : Type 0} where
  -- the terms of row i, counted from 0
  abbrev pub row_at : HeldRows X → ℕ → List X
  row_at s i = slice_index_or s.rows i []

  -- the store with w in the place of row i: no other row changes, and the width is at most the room of w
  abbrev pub with_row : HeldRows X → ℕ → HeldRow X → HeldRows X
  with_row s i w = record {
    rows = slice_set s.rows i w.terms;
    room = s.room;
    width = min s.width w.room;
  }

  -- no row is longer than the width
  abbrev pub AllFit : HeldRows X → Type 0
  AllFit s = All (λ row. length row ≤ s.width) s.rows

  -- whatever a view of row i with that room leaves, with its room as it was: the width stays, and if the row left isn't longer than the width, no row is
  pub record KeepsWidth (s : HeldRows X) (i room : ℕ) : Type 0 where
    pub width : (w : HeldRow X) → w.room ≡ room → (with_row s i w).width ≡ s.width
    pub fit : AllFit s → (w : HeldRow X) → w.room ≡ room → length w.terms ≤ s.width → AllFit (with_row s i w)
