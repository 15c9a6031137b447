-- What contracts see of a tableau in memory, and the tableau that it is.
use Rattle.std.specs.Prelude.{◌≡◌, ℕ, ◌+◌, ◌≤◌, Bool, false, List, [], length, slice_index_or, ℤ}
use Rattle.term_store.specs.declared.term.Term.{Term}
use Rattle.programs.specs.Programs.{Program, row_count}
use Rattle.tableau.specs.Programs.{last_column, IsOrdered, HasSlacks}
use Rattle.tableau.specs.Tableaux.{Tableau}
use Rattle.tableau.specs.Laws.{HasLaws, MakesRowsZero}
use Rattle.sparse_rows.specs.Lines.{entry_of, IsLine}
use Rattle.sparse_rows.specs.Sums.{meaning_at}
use Rattle.simplex.specs.Givens.{given_of}

-- the program that it was started with; the terms of each row, the cost row first; by column, the bounds, whether there is an
-- upper one, and whether the column stands there; by row, the basic column. Place 0 of what goes by row or column is unused
pub record State (A : Type 0) : Type 0 where
  pub program : Program
  pub lines : List (List (Term A))
  pub low : List A
  pub high : List A
  pub has_high : List Bool
  pub basis : List ℕ
  pub at_high : List Bool

module _ {A : Type 0} (f : A → ℤ) where
  -- the tableau that a state is, where f is what a number stands for
  abbrev pub tableau_of : State A → Tableau
  tableau_of s = record {
    given = given_of s.program;
    entry = λ i j. entry_of f (slice_index_or s.lines i []) j;
    basis = λ i. slice_index_or s.basis i 0;
    at_high = λ j. slice_index_or s.at_high j false;
  }

  -- the numbers of columns and rows, the bounds are the program's, and the terms of each row rise
  pub record IsShaped (s : State A) : Type 0 where
    pub lines : length s.lines ≡ row_count s.program + 1
    pub low : length s.low ≡ last_column (given_of s.program) + 1
    pub high : length s.high ≡ length s.low
    pub has_high : length s.has_high ≡ length s.low
    pub basis : length s.basis ≡ length s.lines
    pub at_high : length s.at_high ≡ length s.low
    pub rising : (i : ℕ) → i ≤ row_count s.program → IsLine f 0 (length s.low) (slice_index_or s.lines i [])
    pub lows : (j : ℕ) → 1 ≤ j → j ≤ last_column (given_of s.program) → meaning_at f s.low j ≡ (given_of s.program).low j
    pub highs : (j : ℕ) → 1 ≤ j → j ≤ last_column (given_of s.program) → meaning_at f s.high j ≡ (given_of s.program).high j
    pub bounded : (j : ℕ) → 1 ≤ j → j ≤ last_column (given_of s.program) → slice_index_or s.has_high j false ≡ (given_of s.program).has_high j
    pub few : length s.low ≤ 1601

  -- and it keeps what good exchanges keep, for a program whose bounds are in order: the laws, and that the points which make its rows 0
  -- have as their slacks the values of the program's rows
  pub record KeepsLaws (s : State A) : Type 0 where
    pub shape : IsShaped s
    pub ordered : IsOrdered (given_of s.program)
    pub laws : HasLaws (tableau_of s)
    pub points : (y : ℕ → ℤ) → MakesRowsZero (tableau_of s) y → HasSlacks (given_of s.program) y
