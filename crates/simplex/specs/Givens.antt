-- A program as what a tableau is started with: the slack of a row has the row's right side as its lower bound, and as its
-- upper one too where the row is an equation.
use Rattle.std.specs.Prelude.{ℕ, ◌-◌, Bool, true, false, nat_le, if◌then◌else◌, ℤ}
use Rattle.term_store.specs.declared.side.Side.{Side}
use Rattle.term_store.specs.declared.side.Side.TheVariants.{Equal, AtLeast}
use Rattle.programs.specs.Programs.{Program, column_count, row_count, bounds_at, cost_at, row_at, coefficient}
use Rattle.tableau.specs.Programs.{Given}

abbrev pub is_equation : Side → Bool
is_equation Equal = true
is_equation AtLeast = false

-- the bounds of column j, a structural one or the slack of a row
abbrev pub low_at : Program → ℕ → ℤ
low_at program j = if nat_le j (column_count program) then (bounds_at program j).0 else (row_at program (j - column_count program)).right

abbrev pub high_at : Program → ℕ → ℤ
high_at program j = if nat_le j (column_count program) then (bounds_at program j).1 else (row_at program (j - column_count program)).right

abbrev pub has_high_at : Program → ℕ → Bool
has_high_at program j = if nat_le j (column_count program) then true else is_equation (row_at program (j - column_count program)).side

abbrev pub given_of : Program → Given
given_of program = record {
  columns = column_count program;
  rows = row_count program;
  coefficient = λ i j. coefficient j (row_at program i).terms;
  cost = cost_at program;
  low = low_at program;
  high = high_at program;
  has_high = has_high_at program;
}
