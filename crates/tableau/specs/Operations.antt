-- The exact values that an operation names on a tableau.
use Rattle.std.specs.Prelude.{◌≡◌, ◌≢◌, ℕ, ◌-◌, ◌*◌, ◌≤◌, ◌<◌, ◌⊎◌, true, List, [], ℤ, pos, ◌*ℤ◌, unsigned_abs}
use Rattle.tableau.specs.Programs.{Given, last_column}
use Rattle.tableau.specs.Tableaux.{Tableau, IsRow, IsColumn, basic_entry, summand, sum_up_to}
use Rattle.tableau.specs.Exchanges.{IsOutside, IsEligible, IsGood, kept_product, taken_product, reduced}
use Rattle.tableau.specs.Ends.{IsOptimal, IsLeastDenominator, IsPointOfTableau}
use Rattle.tableau.specs.declared.bound.Bound.{Bound}
use Rattle.tableau.specs.declared.exchange.Exchange.{Exchange}
use Rattle.tableau.specs.declared.op.Op.{Op}
use Rattle.tableau.specs.declared.op.Op.TheVariants.{Cell, Value, Ratio, Join}

-- a product or the difference at row k and column j in the exchange of row i and column c; column 0 is the scale
pub record IsCellValue (t : Tableau) (i c k j : ℕ) (z : ℤ) : Type 0 where
  pub row : k ≤ t.given.rows
  pub other : k ≢ i
  pub changes : t.entry k c ≢ pos 0
  pub column : j ≤ last_column t.given
  pub scale : j ≡ 0 → k ≡ 0
  pub value : (z ≡ kept_product t i c k j) ⊎ ((z ≡ taken_product t i c k j) ⊎ (z ≡ reduced t i c k j))

-- in the sum for the basic value of row i, the product at column j or the sum up to it; at the basic column, its entry by a bound
pub record IsSumValue (t : Tableau) (i j : ℕ) (z : ℤ) : Type 0 where
  pub row : IsRow t i
  pub column : IsColumn t j
  pub value :
      ((z ≡ summand t i j) ⊎ (z ≡ sum_up_to t i j))
      ⊎ ((t.basis i ≡ j)
      × ((z ≡ basic_entry t i *ℤ t.given.low j) ⊎ ((t.given.has_high j ≡ true) × (z ≡ basic_entry t i *ℤ t.given.high j))))

-- one of the two cross products that compare the ratios of two different eligible columns of row i
pub record IsRatioValue (t : Tableau) (i j k : ℕ) (z : ℤ) : Type 0 where
  pub broken : Bound
  pub row : IsRow t i
  pub outside : IsOutside t i broken
  pub column : IsEligible t i broken j
  pub other : IsEligible t i broken k
  pub differ : j ≢ k
  pub value :
      (unsigned_abs z ≡ unsigned_abs (t.entry 0 j) * unsigned_abs (t.entry i k))
      ⊎ (unsigned_abs z ≡ unsigned_abs (t.entry 0 k) * unsigned_abs (t.entry i j))

-- the least common denominator of the basic values of rows 1 to k, or the coordinate of a structural column over that of
-- all rows
pub record IsJoinValue (t : Tableau) (k : ℕ) (z : ℤ) : Type 0 where
  pub optimal : IsOptimal t
  pub row : k ≤ t.given.rows
  pub value :
      IsLeastDenominator t k z
      ⊎ ((k ≡ t.given.rows)
      × ((den : ℤ) × (x : ℕ → ℤ) × (j : ℕ) × IsLeastDenominator t k den × IsPointOfTableau t den x × (1 ≤ j) × (j ≤ t.given.columns) × (x j ≡ z)))

-- z is an exact value of the operation on the tableau
abbrev pub IsValueOf : Tableau → Op → ℤ → Type 0
IsValueOf t (Cell swap row col) z = IsGood t swap × IsCellValue t swap.row swap.col row col z
IsValueOf t (Value row col) z = IsSumValue t row col z
IsValueOf t (Ratio row col other) z = IsRatioValue t row col other z
IsValueOf t (Join row) z = IsJoinValue t row z

-- the operation has an exact value of a magnitude above the greatest
abbrev pub IsOutOfRange : ℕ → Tableau → Op → Type 0
IsOutOfRange greatest t op = (z : ℤ) × IsValueOf t op z × (greatest < unsigned_abs z)

-- z is the coefficient of row i at column j; the cost of column j, where i is 0; or a bound of column j, where i is 0 for a
-- structural column and the row whose slack it is for another
abbrev pub IsGivenNumber : Given → ℕ → ℕ → ℤ → Type 0
IsGivenNumber g i j z =
    ((1 ≤ i) × (i ≤ g.rows) × (1 ≤ j) × (j ≤ g.columns) × (z ≡ g.coefficient i j))
    ⊎ (((i ≡ 0) × (1 ≤ j) × (j ≤ g.columns) × (z ≡ g.cost j))
    ⊎ ((1 ≤ j) × (j ≤ last_column g) × (i ≡ j - g.columns) × ((z ≡ g.low j) ⊎ ((g.has_high j ≡ true) × (z ≡ g.high j)))))

-- the number with this row and column is of a magnitude above the greatest
abbrev pub IsWideNumber : ℕ → Given → ℕ → ℕ → Type 0
IsWideNumber greatest g i j = (z : ℤ) × IsGivenNumber g i j z × (greatest < unsigned_abs z)

-- the operation names a number with which the tableau is started and which is above the greatest
abbrev pub IsWideStart : ℕ → Given → Op → Type 0
IsWideStart greatest g (Value row col) = IsWideNumber greatest g row col
IsWideStart greatest g op = ⊥

-- on the tableau after the trail the operation has an exact value of a magnitude above the greatest; where the trail is empty, it
-- may also name a number with which the tableau is started
abbrev pub IsOutOfRangeAfter : ℕ → List Exchange → Tableau → Op → Type 0
IsOutOfRangeAfter greatest trail t op = IsOutOfRange greatest t op ⊎ ((trail ≡ []) × IsWideStart greatest t.given op)
