-- What a tableau is started with, as functions of row and column numbers. Columns 1 to n are structural, and the slack of
-- row i, which is the value of the row, is column n + i.
use Rattle.std.specs.Prelude.{◌≡◌, ℕ, ◌+◌, ◌≤◌, ◌<◌, Bool, true, ℤ, ◌*ℤ◌, ◌≤ℤ◌}
use Rattle.algebra.specs.Sums.{sum_to}

-- the numbers of structural columns and rows; coefficients by row and column; costs; the bounds of structural and slack columns
pub record Given : Type 0 where
  pub columns : ℕ
  pub rows : ℕ
  pub coefficient : ℕ → ℕ → ℤ
  pub cost : ℕ → ℤ
  pub low : ℕ → ℤ
  pub high : ℕ → ℤ
  pub has_high : ℕ → Bool

-- the number of the last column
abbrev pub last_column : Given → ℕ
last_column g = g.columns + g.rows

-- the bounds are those of a program: in order, each structural column with an upper one, and a slack with an upper one fixed
pub record IsOrdered (g : Given) : Type 0 where
  pub ordered : (j : ℕ) → 1 ≤ j → j ≤ g.columns → g.low j ≤ℤ g.high j
  pub bounded : (j : ℕ) → 1 ≤ j → j ≤ g.columns → g.has_high j ≡ true
  pub fixed : (j : ℕ) → g.columns < j → j ≤ last_column g → g.has_high j ≡ true → g.low j ≡ g.high j

-- the value of row i at x, and the cost of x
abbrev pub row_value : Given → ℕ → (ℕ → ℤ) → ℤ
row_value g i x = sum_to (λ j. g.coefficient i j *ℤ x j) g.columns

abbrev pub cost_value : Given → (ℕ → ℤ) → ℤ
cost_value g x = sum_to (λ j. g.cost j *ℤ x j) g.columns

-- each slack is the value of its row
abbrev pub HasSlacks : Given → (ℕ → ℤ) → Type 0
HasSlacks g x = (i : ℕ) → 1 ≤ i → i ≤ g.rows → x (g.columns + i) ≡ row_value g i x

-- x over den lies in the bounds of every column
pub record LiesInBounds (g : Given) (den : ℤ) (x : ℕ → ℤ) : Type 0 where
  pub low : (j : ℕ) → 1 ≤ j → j ≤ last_column g → (g.low j *ℤ den) ≤ℤ x j
  pub high : (j : ℕ) → 1 ≤ j → j ≤ last_column g → g.has_high j ≡ true → x j ≤ℤ (g.high j *ℤ den)
