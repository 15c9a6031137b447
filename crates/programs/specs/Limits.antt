-- What holds of every program that is kept as a `Milp`.
use Rattle.std.specs.Prelude.{◌≡◌, ◌≢◌, ℕ, ◌^◌, ◌<◌, ◌≤◌, List, [], ◌∷◌, length, ℤ, pos, ◌≤ℤ◌}
use Rattle.std.specs.List.{All}
use Rattle.term_store.specs.declared.term.Term.{Term}
use Rattle.programs.specs.Programs.{Program, column_count, row_count}
use Rattle.programs.specs.Weights.{weight}

-- the terms rise by column, all columns lie above `low` and at most at `high`, and no term is 0
abbrev pub Rises : ℕ → ℕ → List (Term ℤ) → Type 0
Rises low high [] = low ≤ high
Rises low high (t ∷ ts) = (low < t.column) × ((t.value ≢ pos 0) × Rises t.column high ts)

-- at most 600 rows and 1,000 columns; each row's terms rise by column and stand on the columns; no least bound is above
-- its greatest one, no cost is below 0, and the weight is at most 2^46
pub record IsWithinLimits (program : Program) : Type 0 where
  pub rows : row_count program ≤ 600
  pub columns : column_count program ≤ 1000
  pub costs : length program.costs ≡ column_count program
  pub rising : All (λ row. Rises 0 (column_count program) row.terms) program.rows
  pub ordered : All (λ bounds. bounds.0 ≤ℤ bounds.1) program.bounds
  pub costs_from_zero : All (λ cost. pos 0 ≤ℤ cost) program.costs
  pub light : weight program ≤ 2 ^ 46
