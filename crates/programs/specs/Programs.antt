-- A linear program over whole numbers: columns with bounds and costs, and rows that ask something of sums over columns.
-- Columns and rows are numbered from 1.
use Rattle.std.specs.Prelude.{ℕ, List, [], ◌∷◌, length, ℤ, pos, ◌+ℤ◌, ◌==◌, if◌then◌else◌}
use Rattle.term_store.specs.declared.term.Term.{Term}
use Rattle.term_store.specs.declared.side.Side.{Side}
use Rattle.term_store.specs.declared.side.Side.TheVariants.{Equal}
use Rattle.algebra.specs.Numbered.{numbered}

-- a row asks that the sum of its terms equals, or is at least, its right side
pub record ProgramRow : Type 0 where
  pub terms : List (Term ℤ)
  pub side : Side
  pub right : ℤ

-- the bounds of each column, least and greatest, the cost of each, and the rows
pub record Program : Type 0 where
  pub bounds : List (ℤ × ℤ)
  pub costs : List ℤ
  pub rows : List ProgramRow

abbrev pub column_count : Program → ℕ
column_count program = length program.bounds

abbrev pub row_count : Program → ℕ
row_count program = length program.rows

-- the least and the greatest bound of column j
abbrev pub bounds_at : Program → ℕ → ℤ × ℤ
bounds_at program j = numbered (pos 0, pos 0) program.bounds j

-- the cost of column j
abbrev pub cost_at : Program → ℕ → ℤ
cost_at program j = numbered (pos 0) program.costs j

-- a row that asks nothing
abbrev pub empty_row : ProgramRow
empty_row = record { terms = []; side = Equal; right = pos 0 }

-- row i
abbrev pub row_at : Program → ℕ → ProgramRow
row_at program i = numbered empty_row program.rows i

-- what one term has at column j
abbrev pub entry : ℕ → Term ℤ → ℤ
entry j t = if t.column == j then t.value else pos 0

-- the coefficient of column j in a row's terms
abbrev pub coefficient : ℕ → List (Term ℤ) → ℤ
coefficient j [] = pos 0
coefficient j (t ∷ ts) = entry j t +ℤ coefficient j ts

-- the rows whose terms, sides and right sides are listed apart
abbrev pub rows_of : List (List (Term ℤ)) → List Side → List ℤ → List ProgramRow
rows_of (terms ∷ more) (side ∷ sides) (right ∷ rights) =
    record { terms = terms; side = side; right = right } ∷ rows_of more sides rights
rows_of _ _ _ = []
