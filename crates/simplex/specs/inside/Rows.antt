-- The rows of a store while an exchange is prepared: the rows of the tableau come first, and behind them as many spare ones.
use Rattle.std.specs.Prelude.{◌≡◌, ◌≢◌, ◌↔◌, ℕ, ◌+◌, ◌<◌, ◌≤◌, ◌⊎◌, Bool, true, false, List, slice_index_or, slice_set, ℤ, pos, ◌-ℤ◌, ◌*ℤ◌, ◌<ℤ◌, unsigned_abs}
use Rattle.term_store.specs.declared.term.Term.{Term}
use Rattle.tableau.specs.Signs.{turned}
use Rattle.tableau.specs.Exchanges.{IsDivided, IsToward}
use Rattle.tableau.specs.declared.bound.Bound.{Bound}
use Rattle.tableau.specs.declared.bound.Bound.TheVariants.{Upper}
use Rattle.sparse_rows.specs.Lines.{entry_of, IsLine}

-- the products and the difference at column j when a row is reduced by a pivot row, with p and q their entries at one column
abbrev pub kept_by : ℤ → (ℕ → ℤ) → ℕ → ℤ
kept_by p other j = pos (unsigned_abs p) *ℤ other j

abbrev pub taken_by : ℤ → ℤ → (ℕ → ℤ) → ℕ → ℤ
taken_by p q pivot j = turned p q *ℤ pivot j

abbrev pub reduced_by : ℤ → ℤ → (ℕ → ℤ) → (ℕ → ℤ) → ℕ → ℤ
reduced_by p q pivot other j = kept_by p other j -ℤ taken_by p q pivot j

-- one of these at column j is of a magnitude above the greatest
abbrev pub IsWideBy : ℕ → ℤ → ℤ → (ℕ → ℤ) → (ℕ → ℤ) → ℕ → Type 0
IsWideBy greatest p q pivot other j =
    (greatest < unsigned_abs (kept_by p other j))
    ⊎ ((greatest < unsigned_abs (taken_by p q pivot j)) ⊎ (greatest < unsigned_abs (reduced_by p q pivot other j)))

module _ {A : Type 0} (f : A → ℤ) where
  -- a row reduced by a pivot row at column c
  abbrev pub reduced_at : List (Term A) → List (Term A) → ℕ → ℕ → ℤ
  reduced_at pivot other c = reduced_by (entry_of f pivot c) (entry_of f other c) (entry_of f pivot) (entry_of f other)

  -- row k changes in the exchange of row i and column c: it isn't that row, and has an entry at that column
  abbrev pub Changes : ℕ → ℕ → ℕ → List (Term A) → Type 0
  Changes i c k other = (k ≢ i) × (entry_of f other c ≢ pos 0)

  -- where it changes it is reduced to one that isn't empty below `end`
  abbrev pub LeavesEntries : ℕ → ℕ → ℕ → ℕ → List (Term A) → List (Term A) → Type 0
  LeavesEntries i c end k pivot other = Changes i c k other → (j : ℕ) × (j < end) × (reduced_at pivot other c j ≢ pos 0)

  -- row k is prepared: it is marked where it changes, and then `to` is what becomes of it
  pub record IsPrepared (i c end k : ℕ) (pivot other : List (Term A)) (marked : Bool) (to : List (Term A)) : Type 0 where
    pub same : marked ≡ false → (k ≡ i) ⊎ (entry_of f other c ≡ pos 0)
    pub changes : marked ≡ true → Changes i c k other
    pub line : marked ≡ true → IsLine f 0 end to
    pub divided : marked ≡ true → (last : ℕ) → last + 1 ≡ end → IsDivided last (reduced_at pivot other c) (entry_of f to)

  -- an entry of row k is out of range in the exchange
  pub record IsWideRow (greatest i c end k : ℕ) (pivot other : List (Term A)) (column : ℕ) : Type 0 where
    pub changes : Changes i c k other
    pub within : column < end
    pub wide : IsWideBy greatest (entry_of f pivot c) (entry_of f other c) (entry_of f pivot) (entry_of f other) column

  -- rows are the same but for the one at a place
  abbrev pub AreSameBut : ℕ → List (List (Term A)) → List (List (Term A)) → Type 0
  AreSameBut place before after = (before ≡ after) ⊎ ((new : List (Term A)) × (after ≡ slice_set before place new))

  -- structural columns stand by the signs of the entries of a row; where an entry is 0 they stay
  pub record IsRestood (row : List (Term A)) (columns : ℕ) (before after : List Bool) : Type 0 where
    pub above : (j : ℕ) → j ≤ columns → pos 0 <ℤ entry_of f row j → slice_index_or after j false ≡ false
    pub below : (j : ℕ) → j ≤ columns → entry_of f row j <ℤ pos 0 → slice_index_or after j false ≡ true
    pub stays : (j : ℕ) → j ≤ columns → entry_of f row j ≡ pos 0 → slice_index_or after j false ≡ slice_index_or before j false
    pub slacks : (j : ℕ) → columns < j → slice_index_or after j false ≡ slice_index_or before j false

-- a leaving column stands at the bound that it broke, where it is a structural one; the others stay
pub record IsStood (leaving columns : ℕ) (upper : Bool) (before after : List Bool) : Type 0 where
  pub leaves : leaving ≤ columns → slice_index_or after leaving false ≡ upper
  pub stays : (j : ℕ) → j ≢ leaving → slice_index_or after j false ≡ slice_index_or before j false
  pub slacks : (j : ℕ) → columns < j → slice_index_or after j false ≡ slice_index_or before j false

-- what an exchange of row i and column c leaves of the rows, the basis and the standing of columns
module _ {A : Type 0} (f : A → ℤ) where
  -- of row k
  pub record IsChangedRow (i c end k : ℕ) (pivot other to : List (Term A)) : Type 0 where
    pub same : (k ≡ i) ⊎ (entry_of f other c ≡ pos 0) → to ≡ other
    pub line : IsLine f 0 end to
    pub divided : Changes f i c k other → (last : ℕ) → last + 1 ≡ end → IsDivided last (reduced_at f pivot other c) (entry_of f to)

  -- the column that leaves stands at its upper bound exactly where that is broken, and then structural columns stand by
  -- their new cost entries
  pub record IsRestanding (columns leaving c : ℕ) (pivot costs : List (Term A)) (before after : List Bool) : Type 0 where
    pub upper : Bool
    pub breaks : (broken : Bound) → IsToward broken (slice_index_or before c false) (entry_of f pivot c) (entry_of f pivot leaving)
        → (upper ≡ true) ↔ (broken ≡ Upper)
    pub middle : List Bool
    pub stood : IsStood leaving columns upper before middle
    pub restood : IsRestood f costs columns middle after
