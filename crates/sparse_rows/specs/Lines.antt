-- Sparse rows: terms by rising column, none of them 0. `f` is what a value stands for.
use Rattle.std.specs.Prelude.{◌≡◌, ◌≢◌, ℕ, ◌+◌, ◌≤◌, ◌<◌, ◌==◌, if◌then◌else◌, List, [], ◌∷◌, ℤ, pos}
use Rattle.term_store.specs.declared.term.Term.{Term}

module _ {A : Type 0} (f : A → ℤ) where
  -- the entry of a row at column j, 0 where no term names the column
  abbrev pub entry_of : List (Term A) → ℕ → ℤ
  entry_of [] j = pos 0
  entry_of (t ∷ ts) j = if t.column == j then f t.value else entry_of ts j

  -- columns rise from `from` and lie below `end`, and no value is 0
  abbrev pub IsLine : ℕ → ℕ → List (Term A) → Type 0
  IsLine from end [] = from ≤ end
  IsLine from end (t ∷ ts) = (from ≤ t.column) × ((f t.value ≢ pos 0) × IsLine (t.column + 1) end ts)

  -- the terms have the entries of `entries` at the columns below `end`, and no others
  pub record IsFilled (terms : List (Term A)) (end : ℕ) (entries : ℕ → ℤ) : Type 0 where
    pub line : IsLine 0 end terms
    pub same : (j : ℕ) → j < end → entry_of terms j ≡ entries j
