-- The value of a scale and one multiplier for each row: a safe bound of the program's costs, by whole numbers alone.
use Rattle.std.specs.Prelude.{◌≡◌, ℕ, List, ◌∷◌, length, ◌≤◌, ℤ, pos, ◌+ℤ◌, ◌-ℤ◌, ◌*ℤ◌, ◌≤ℤ◌, unsigned_abs}
use Rattle.std.specs.Int.{int_min}
use Rattle.std.specs.List.{All}
use Rattle.algebra.specs.Sums.{sum_to}
use Rattle.algebra.specs.Numbered.{numbered, IsNumber}
use Rattle.algebra.specs.Scale.{greatest_scale}
use Rattle.term_store.specs.declared.side.Side.TheVariants.{AtLeast}
use Rattle.programs.specs.Programs.{Program, ProgramRow, row_count, column_count, row_at, bounds_at, cost_at, coefficient}

-- the multiplier of row i; a row without one counts 0
abbrev pub multiplier_at : List ℤ → ℕ → ℤ
multiplier_at mults i = numbered (pos 0) mults i

-- the sum over the rows of multiplier times right side
abbrev pub rights_value : List ProgramRow → List ℤ → ℤ
rights_value (row ∷ rows) (y ∷ ys) = y *ℤ row.right +ℤ rights_value rows ys
rights_value _ _ = pos 0

-- the sum over the rows of multiplier times coefficient of column j
abbrev pub combined : ℕ → List ProgramRow → List ℤ → ℤ
combined j (row ∷ rows) (y ∷ ys) = y *ℤ coefficient j row.terms +ℤ combined j rows ys
combined j _ _ = pos 0

-- the scaled cost of column j less what the multipliers combine there
abbrev pub reduced_cost : Program → ℤ → List ℤ → ℕ → ℤ
reduced_cost program scale mults j = scale *ℤ cost_at program j -ℤ combined j program.rows mults

-- the least that column j can add: its reduced cost times one of its bounds
abbrev pub column_value : Program → ℤ → List ℤ → ℕ → ℤ
column_value program scale mults j =
    int_min
    (reduced_cost program scale mults j *ℤ (bounds_at program j).0)
    (reduced_cost program scale mults j *ℤ (bounds_at program j).1)

-- what the right sides give, and the least that the columns add
abbrev pub value_of : Program → ℤ → List ℤ → ℤ
value_of program scale mults =
    rights_value program.rows mults +ℤ sum_to (column_value program scale mults) (column_count program)

-- a multiplier of a magnitude within the limit
abbrev pub IsMultiplier : ℤ → Type 0
IsMultiplier y = unsigned_abs y ≤ greatest_scale

-- one multiplier for each row, each within the limit
pub record AreMultipliers (program : Program) (mults : List ℤ) : Type 0 where
  pub each_row : length mults ≡ row_count program
  pub within : All IsMultiplier mults

-- no multiplier of a row that asks for at least its right side is below 0
pub record HasRightSigns (program : Program) (mults : List ℤ) : Type 0 where
  pub each : (i : ℕ) → IsNumber i (row_count program) → (row_at program i).side ≡ AtLeast → pos 0 ≤ℤ multiplier_at mults i
