-- The numbers of a program while they are put into the range of a type. `f` is what a number stands for.
use Rattle.std.specs.Prelude.{◌≡◌, ℕ, ◌+◌, ◌≤◌, ◌<◌, Bool, false, List, [], length, slice_index_or, ℤ}
use Rattle.term_store.specs.declared.term.Term.{Term}
use Rattle.programs.specs.Programs.{Program, column_count, row_count}
use Rattle.sparse_rows.specs.Lines.{IsFilled}
use Rattle.sparse_rows.specs.Sums.{meaning_at}
use Rattle.simplex.specs.Givens.{low_at, high_at, has_high_at}
use Rattle.simplex.specs.Starts.{cost_entry, start_entry}

module _ {A : Type 0} (f : A → ℤ) (program : Program) where
  -- the bounds of the columns below a number, with place 0 unused
  pub record AreBounds (end : ℕ) (low high : List A) (has_high : List Bool) : Type 0 where
    pub low_count : length low ≡ end
    pub high_count : length high ≡ end
    pub has_high_count : length has_high ≡ end
    pub lows : (j : ℕ) → 1 ≤ j → j < end → meaning_at f low j ≡ low_at program j
    pub highs : (j : ℕ) → 1 ≤ j → j < end → meaning_at f high j ≡ high_at program j
    pub bounded : (j : ℕ) → 1 ≤ j → j < end → slice_index_or has_high j false ≡ has_high_at program j

  -- the cost row and the rows up to a number
  pub record AreLines (last : ℕ) (lines : List (List (Term A))) : Type 0 where
    pub many : last + 1 ≤ length lines
    pub costs : IsFilled f (slice_index_or lines 0 []) (column_count program + 1) (cost_entry program)
    pub rows : (i : ℕ) → 1 ≤ i → i ≤ last → IsFilled f (slice_index_or lines i []) (column_count program + row_count program + 1) (start_entry program i)
