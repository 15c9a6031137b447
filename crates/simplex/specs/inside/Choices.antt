-- Which column a row takes, in terms of lists: a row, the number of its basic column, bounds, and where columns stand.
use Rattle.std.specs.Prelude.{◌≡◌, ◌≢◌, ℕ, ◌-◌, ◌*◌, ◌≤◌, ◌<◌, ◌⊎◌, Bool, true, false, List, length, slice_index_or, ℤ, ◌+ℤ◌, ◌*ℤ◌, unsigned_abs}
use Rattle.algebra.specs.Sums.{sum_to}
use Rattle.term_store.specs.declared.term.Term.{Term}
use Rattle.tableau.specs.Signs.{IsSameSign, IsOppositeSign}
use Rattle.tableau.specs.Exchanges.{IsToward}
use Rattle.tableau.specs.declared.bound.Bound.{Bound}
use Rattle.tableau.specs.declared.bound.Bound.TheVariants.{Lower, Upper}
use Rattle.sparse_rows.specs.Lines.{entry_of}
use Rattle.sparse_rows.specs.Sums.{meaning_at, share}

module _ {A : Type 0} (f : A → ℤ) (row : List (Term A)) (basic : ℕ) (low high : List A) (has_high at_high : List Bool) where
  -- the sum of the row without its basic column, and with that column at z
  abbrev pub row_rest : ℤ
  row_rest = sum_to (share f row basic low high at_high) (length low - 1)

  abbrev pub rest_with : ℤ → ℤ
  rest_with z = row_rest +ℤ entry_of f row basic *ℤ z

  -- the basic value breaks a bound
  abbrev pub IsBroken : Bound → Type 0
  IsBroken Lower = IsSameSign (entry_of f row basic) (rest_with (meaning_at f low basic))
  IsBroken Upper = (slice_index_or has_high basic false ≡ true) × IsOppositeSign (entry_of f row basic) (rest_with (meaning_at f high basic))

  -- the number at column j of the sum is out of range, or the product of the basic entry and a bound
  abbrev pub IsWideSum : ℕ → ℕ → Type 0
  IsWideSum greatest j =
      ((greatest < unsigned_abs (share f row basic low high at_high j))
      ⊎ (greatest < unsigned_abs (sum_to (share f row basic low high at_high) j)))
      ⊎ ((j ≡ basic)
      × ((greatest < unsigned_abs (entry_of f row basic *ℤ meaning_at f low basic))
      ⊎ ((slice_index_or has_high basic false ≡ true) × (greatest < unsigned_abs (entry_of f row basic *ℤ meaning_at f high basic)))))

  -- column j may enter: it isn't the basic one, its bounds differ, and it moves the basic value towards the broken bound
  pub record MayEnter (broken : Bound) (j : ℕ) : Type 0 where
    pub other : basic ≢ j
    pub movable : slice_index_or has_high j false ≡ true → meaning_at f low j ≢ meaning_at f high j
    pub toward : IsToward broken (slice_index_or at_high j false) (entry_of f row j) (entry_of f row basic)

  -- the ratio of column j is at most that of column k
  abbrev pub IsAtMost : List (Term A) → ℕ → ℕ → Type 0
  IsAtMost costs j k = unsigned_abs (entry_of f costs j) * unsigned_abs (entry_of f row k) ≤ unsigned_abs (entry_of f costs k) * unsigned_abs (entry_of f row j)

  -- column c is the first of those with the least ratio
  pub record IsChosen (costs : List (Term A)) (broken : Bound) (c : ℕ) : Type 0 where
    pub enters : MayEnter broken c
    pub least : (j : ℕ) → MayEnter broken j → IsAtMost costs c j
    pub first : (j : ℕ) → MayEnter broken j → IsAtMost costs j c → c ≤ j
