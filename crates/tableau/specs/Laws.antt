-- What holds of every tableau that good exchanges reach.
use Rattle.std.specs.Prelude.{◌≡◌, ◌≢◌, ℕ, ◌+◌, ◌≤◌, ◌<◌, false, true, ℤ, pos, ◌-ℤ◌, ◌*ℤ◌, ◌≤ℤ◌, ◌<ℤ◌}
use Rattle.algebra.specs.Sums.{sum_to}
use Rattle.tableau.specs.Programs.{Given, last_column}
use Rattle.tableau.specs.Tableaux.{Tableau, IsRow, IsColumn, basic_entry}

-- a line is the costs by its scale and the rows by its own negated slack entries: at each structural column it is the scale
-- times the cost less the sum of its slack entries times the coefficients
abbrev pub IsCombination : Given → (ℕ → ℤ) → Type 0
IsCombination g line =
    (j : ℕ) → 1 ≤ j → j ≤ g.columns
    → line j ≡ line 0 *ℤ g.cost j -ℤ sum_to (λ i. line (g.columns + i) *ℤ g.coefficient i j) g.rows

-- x makes every row 0
abbrev pub MakesRowsZero : Tableau → (ℕ → ℤ) → Type 0
MakesRowsZero t x = (i : ℕ) → IsRow t i → sum_to (λ j. t.entry i j *ℤ x j) (last_column t.given) ≡ pos 0

-- each row is a sum of the original ones, only the cost row has a scale, and it is at least 1
pub record HasRows (t : Tableau) : Type 0 where
  pub combinations : (i : ℕ) → i ≤ t.given.rows → IsCombination t.given (t.entry i)
  pub no_scale : (i : ℕ) → IsRow t i → t.entry i 0 ≡ pos 0
  pub scale : pos 1 ≤ℤ t.entry 0 0

-- each basic column has an entry in its row alone
pub record HasBasis (t : Tableau) : Type 0 where
  pub column : (i : ℕ) → IsRow t i → IsColumn t (t.basis i)
  pub entry : (i : ℕ) → IsRow t i → basic_entry t i ≢ pos 0
  pub alone : (i k : ℕ) → i ≤ t.given.rows → IsRow t k → i ≢ k → t.entry i (t.basis k) ≡ pos 0

-- the cost row has right signs: a structural column stands by the sign of its entry; a slack without an upper bound has none
-- below 0, and slacks stand at their lower bounds
pub record HasSigns (t : Tableau) : Type 0 where
  pub above : (j : ℕ) → 1 ≤ j → j ≤ t.given.columns → pos 0 <ℤ t.entry 0 j → t.at_high j ≡ false
  pub below : (j : ℕ) → 1 ≤ j → j ≤ t.given.columns → t.entry 0 j <ℤ pos 0 → t.at_high j ≡ true
  pub slacks : (j : ℕ) → t.given.columns < j → j ≤ last_column t.given → t.given.has_high j ≡ false → pos 0 ≤ℤ t.entry 0 j
  pub slacks_low : (j : ℕ) → t.given.columns < j → j ≤ last_column t.given → t.at_high j ≡ false

-- the laws of a reached tableau
pub record HasLaws (t : Tableau) : Type 0 where
  pub rows : HasRows t
  pub basis : HasBasis t
  pub signs : HasSigns t
