-- A tableau: the entries of its rows, the basic column of each row, and where the other columns stand.
-- Row 0 is the cost row, and column 0 of row 0 its scale.
use Rattle.std.specs.Prelude.{◌≡◌, ◌≢◌, ℕ, ◌+◌, ◌≤◌, ◌<◌, ◌==◌, Bool, false, cond, if◌then◌else◌, ℤ, pos, negsuc, int_lt, ◌+ℤ◌, ◌*ℤ◌}
use Rattle.algebra.specs.Sums.{sum_to}
use Rattle.tableau.specs.Programs.{Given, last_column}

-- what it was started with; entries by row and column; the basic column of a row; whether a column stands at its upper bound
pub record Tableau : Type 0 where
  pub given : Given
  pub entry : ℕ → ℕ → ℤ
  pub basis : ℕ → ℕ
  pub at_high : ℕ → Bool

-- i is a row other than the cost row; j is a column
abbrev pub IsRow : Tableau → ℕ → Type 0
IsRow t i = (1 ≤ i) × (i ≤ t.given.rows)

abbrev pub IsColumn : Tableau → ℕ → Type 0
IsColumn t j = (1 ≤ j) × (j ≤ last_column t.given)

-- no row has the column as its basic one
abbrev pub IsNonbasic : Tableau → ℕ → Type 0
IsNonbasic t j = (i : ℕ) → IsRow t i → t.basis i ≢ j

-- the entry of a row's basic column
abbrev pub basic_entry : Tableau → ℕ → ℤ
basic_entry t i = t.entry i (t.basis i)

-- the bound at which a column stands where it isn't basic
abbrev pub standing : Tableau → ℕ → ℤ
standing t j = cond (t.at_high j) (t.given.high j) (t.given.low j)

-- the summand of column j in the sum of row i over the columns other than its basic one
abbrev pub summand : Tableau → ℕ → ℕ → ℤ
summand t i j = if t.basis i == j then pos 0 else (t.entry i j *ℤ standing t j)

-- that sum over the columns up to j, and over all columns
abbrev pub sum_up_to : Tableau → ℕ → ℕ → ℤ
sum_up_to t i j = sum_to (summand t i) j

abbrev pub rest : Tableau → ℕ → ℤ
rest t i = sum_up_to t i (last_column t.given)

-- the sum of row i with its basic column at z
abbrev pub row_at : Tableau → ℕ → ℤ → ℤ
row_at t i z = rest t i +ℤ basic_entry t i *ℤ z

-- the start: each row is its coefficients and -1 at its slack, the cost row is the costs with scale 1, slacks are basic, and
-- a structural column stands at its upper bound where its cost is below 0
pub record IsStart (g : Given) (t : Tableau) : Type 0 where
  pub given : t.given ≡ g
  pub scale : t.entry 0 0 ≡ pos 1
  pub no_scale : (i : ℕ) → 1 ≤ i → i ≤ g.rows → t.entry i 0 ≡ pos 0
  pub costs : (j : ℕ) → 1 ≤ j → j ≤ g.columns → t.entry 0 j ≡ g.cost j
  pub no_cost : (k : ℕ) → 1 ≤ k → k ≤ g.rows → t.entry 0 (g.columns + k) ≡ pos 0
  pub coefficients : (i j : ℕ) → 1 ≤ i → i ≤ g.rows → 1 ≤ j → j ≤ g.columns → t.entry i j ≡ g.coefficient i j
  pub slack : (i : ℕ) → 1 ≤ i → i ≤ g.rows → t.entry i (g.columns + i) ≡ negsuc 0
  pub other_slack : (i k : ℕ) → 1 ≤ i → i ≤ g.rows → 1 ≤ k → k ≤ g.rows → i ≢ k → t.entry i (g.columns + k) ≡ pos 0
  pub basis : (i : ℕ) → 1 ≤ i → i ≤ g.rows → t.basis i ≡ g.columns + i
  pub standing : (j : ℕ) → 1 ≤ j → j ≤ g.columns → t.at_high j ≡ int_lt (g.cost j) (pos 0)
  pub slacks_low : (j : ℕ) → g.columns < j → j ≤ last_column g → t.at_high j ≡ false
