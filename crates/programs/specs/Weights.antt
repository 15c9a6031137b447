-- The weight of a program: what bounds every sum that is formed over its rows and columns.
use Rattle.std.specs.Prelude.{ℕ, ◌+◌, ◌*◌, max, List, [], ◌∷◌, ℤ, unsigned_abs}
use Rattle.term_store.specs.declared.term.Term.{Term}
use Rattle.algebra.specs.Totals.{total_to}
use Rattle.programs.specs.Programs.{Program, ProgramRow, column_count, bounds_at, cost_at, entry}

-- the sum of the magnitudes that a row's terms have at column j
abbrev pub load_of_terms : ℕ → List (Term ℤ) → ℕ
load_of_terms j [] = 0
load_of_terms j (t ∷ ts) = unsigned_abs (entry j t) + load_of_terms j ts

-- the sum of the magnitudes of column j's coefficients in all rows
abbrev pub load_of_rows : ℕ → List ProgramRow → ℕ
load_of_rows j [] = 0
load_of_rows j (row ∷ rows) = load_of_terms j row.terms + load_of_rows j rows

-- the greatest magnitude of two bounds
abbrev pub reach : ℤ × ℤ → ℕ
reach bounds = max (unsigned_abs bounds.0) (unsigned_abs bounds.1)

-- the magnitudes of column j's coefficients and its cost, together, times the reach of its bounds
abbrev pub column_weight : Program → ℕ → ℕ
column_weight program j =
    (load_of_rows j program.rows + unsigned_abs (cost_at program j)) * reach (bounds_at program j)

-- the sum of the magnitudes of the right sides
abbrev pub load_of_rights : List ProgramRow → ℕ
load_of_rights [] = 0
load_of_rights (row ∷ rows) = unsigned_abs row.right + load_of_rights rows

-- the weights of all columns, and the magnitudes of the right sides
abbrev pub weight : Program → ℕ
weight program = total_to (column_weight program) (column_count program) + load_of_rights program.rows
