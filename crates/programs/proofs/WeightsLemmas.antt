-- The weight of a program, row by row.
use Rattle.std.proofs.Common.{◌≡◌, ℕ, ◌+◌, ◌*◌, List, [], ◌∷◌, ◌++◌, length, arith, ap, refl}
use Rattle.std.specs.Prelude.{ℤ, pos, unsigned_abs}
use Rattle.std.proofs.Math.Nat.{add-mul}
use Rattle.term_store.specs.declared.term.Term.{Term}
use Rattle.algebra.specs.Totals.{total_to}
use Rattle.algebra.specs.Numbered.{numbered}
use Rattle.algebra.proofs.NumberedLemmas.{numbered_past}
use Rattle.algebra.proofs.TotalsLemmas.{total_to_zero, total_to_add, total_to_ext}
use Rattle.programs.specs.Programs.{Program, ProgramRow, column_count, cost_at, entry}
use Rattle.programs.specs.Weights.{load_of_terms, load_of_rows, load_of_rights, reach, column_weight, weight}
use Rattle.programs.proofs.EntriesLemmas.{load_of_term}

-- how far the bounds of column j reach
abbrev pub reach_at : List (ℤ × ℤ) → ℕ → ℕ
reach_at bounds j = reach (numbered (pos 0, pos 0) bounds j)

-- the magnitudes of a row's terms, each times the reach of its column's bounds
abbrev pub terms_weight : List (ℤ × ℤ) → List (Term ℤ) → ℕ
terms_weight bounds [] = 0
terms_weight bounds (t ∷ ts) = unsigned_abs t.value * reach_at bounds t.column + terms_weight bounds ts

-- those of all rows, with the magnitudes of their right sides
abbrev pub rows_weight : List (ℤ × ℤ) → List ProgramRow → ℕ
rows_weight bounds [] = 0
rows_weight bounds (row ∷ rows) = (terms_weight bounds row.terms + unsigned_abs row.right) + rows_weight bounds rows

-- the costs, each times the reach of its column's bounds
abbrev pub costs_weight : Program → ℕ
costs_weight program = total_to (λ j. unsigned_abs (cost_at program j) * reach_at program.bounds j) (column_count program)

pub terms_by_columns : (bounds : List (ℤ × ℤ)) (ts : List (Term ℤ)) → total_to (λ j. load_of_terms j ts * reach_at bounds j) (length bounds) ≡ terms_weight bounds ts
terms_by_columns bounds [] = total_to_zero (λ j. 0 * reach_at bounds j) (length bounds) (λ j low high. omega arith)
terms_by_columns bounds (t ∷ ts) =
    let first = load_of_term (reach_at bounds) (length bounds) t refl (λ j l. ap reach (numbered_past (pos 0, pos 0) bounds j l)) in
    let rest = terms_by_columns bounds ts in
    let both = total_to_add (λ j. unsigned_abs (entry j t) * reach_at bounds j) (λ j. load_of_terms j ts * reach_at bounds j) (length bounds) in
    let apart = total_to_ext
    (λ j. (unsigned_abs (entry j t) + load_of_terms j ts) * reach_at bounds j)
    (λ j. unsigned_abs (entry j t) * reach_at bounds j + load_of_terms j ts * reach_at bounds j)
    (length bounds)
    (λ j low high. add-mul (unsigned_abs (entry j t)) (load_of_terms j ts) (reach_at bounds j)) in
    omega arith

pub rows_by_columns : (bounds : List (ℤ × ℤ)) (rows : List ProgramRow) → total_to (λ j. load_of_rows j rows * reach_at bounds j) (length bounds) + load_of_rights rows ≡ rows_weight bounds rows
rows_by_columns bounds [] = let none = total_to_zero (λ j. 0 * reach_at bounds j) (length bounds) (λ j low high. omega arith) in omega arith
rows_by_columns bounds (row ∷ rows) =
    let first = terms_by_columns bounds row.terms in
    let rest = rows_by_columns bounds rows in
    let both = total_to_add (λ j. load_of_terms j row.terms * reach_at bounds j) (λ j. load_of_rows j rows * reach_at bounds j) (length bounds) in
    let apart = total_to_ext
    (λ j. (load_of_terms j row.terms + load_of_rows j rows) * reach_at bounds j)
    (λ j. load_of_terms j row.terms * reach_at bounds j + load_of_rows j rows * reach_at bounds j)
    (length bounds)
    (λ j low high. add-mul (load_of_terms j row.terms) (load_of_rows j rows) (reach_at bounds j)) in
    omega arith

-- the weight is that of the rows and that of the costs
pub weight_by_rows : (program : Program) → weight program ≡ rows_weight program.bounds program.rows + costs_weight program
weight_by_rows program =
    let n = column_count program in
    let rows = rows_by_columns program.bounds program.rows in
    let both = total_to_add
    (λ j. load_of_rows j program.rows * reach_at program.bounds j)
    (λ j. unsigned_abs (cost_at program j) * reach_at program.bounds j)
    n in
    let apart = total_to_ext
    (column_weight program)
    (λ j. load_of_rows j program.rows * reach_at program.bounds j + unsigned_abs (cost_at program j) * reach_at program.bounds j)
    n
    (λ j low high. add-mul (load_of_rows j program.rows) (unsigned_abs (cost_at program j)) (reach_at program.bounds j)) in
    omega arith

pub rows_weight-append : (bounds : List (ℤ × ℤ)) (rows more : List ProgramRow) → rows_weight bounds (rows ++ more) ≡ rows_weight bounds rows + rows_weight bounds more
rows_weight-append bounds [] more = omega arith
rows_weight-append bounds (row ∷ rows) more = let rest = rows_weight-append bounds rows more in omega arith
