-- Where a tableau ends: optimal, with its point and the least common denominator of its basic values, or empty, with its ray.
use Rattle.std.specs.Prelude.{◌≡◌, ℕ, ◌+◌, ◌≤◌, ℤ, pos, neg_ℤ, ◌+ℤ◌, ◌-ℤ◌, ◌*ℤ◌, ◌<ℤ◌}
use Rattle.std.specs.Int.{int_min}
use Rattle.algebra.specs.Sums.{sum_to}
use Rattle.numbers.specs.Divisors.{Divides}
use Rattle.tableau.specs.Programs.{Given}
use Rattle.tableau.specs.Signs.{turned}
use Rattle.tableau.specs.Tableaux.{Tableau, IsRow, IsColumn, IsNonbasic, basic_entry, standing, rest}
use Rattle.tableau.specs.Exchanges.{IsOutside, IsEligible}
use Rattle.tableau.specs.declared.bound.Bound.{Bound}
use Rattle.tableau.specs.declared.bound.Bound.TheVariants.{Lower, Upper}

-- every basic value is within its bounds; asked of tableaux whose basic entries aren't 0
abbrev pub IsOptimal : Tableau → Type 0
IsOptimal t = (i : ℕ) (broken : Bound) → IsRow t i → IsOutside t i broken → ⊥

-- the basic value of row i breaks this bound, and no column is eligible for the row
pub record IsEmptyRow (t : Tableau) (i : ℕ) (broken : Bound) : Type 0 where
  pub row : IsRow t i
  pub outside : IsOutside t i broken
  pub none : (j : ℕ) → IsEligible t i broken j → ⊥

-- a denominator clears the basic value of row i: it makes it a whole number
abbrev pub Clears : Tableau → ℕ → ℤ → Type 0
Clears t i den = Divides (basic_entry t i) (den *ℤ rest t i)

-- it clears the basic values of rows 1 to k
abbrev pub ClearsTo : Tableau → ℕ → ℤ → Type 0
ClearsTo t k den = (i : ℕ) → 1 ≤ i → i ≤ k → Clears t i den

-- the least common denominator of the basic values of rows 1 to k
pub record IsLeastDenominator (t : Tableau) (k : ℕ) (den : ℤ) : Type 0 where
  pub positive : pos 0 <ℤ den
  pub clears : ClearsTo t k den
  pub least : (other : ℤ) → ClearsTo t k other → Divides den other

-- x over den is the tableau's point: nonbasic columns stand at their bounds, and basic ones have the value that makes their row 0
pub record IsPointOfTableau (t : Tableau) (den : ℤ) (x : ℕ → ℤ) : Type 0 where
  pub nonbasic : (j : ℕ) → IsColumn t j → IsNonbasic t j → x j ≡ den *ℤ standing t j
  pub basic : (i : ℕ) → IsRow t i → basic_entry t i *ℤ x (t.basis i) +ℤ den *ℤ rest t i ≡ pos 0

-- the multiplier of row i: the entry of the cost row at its slack
abbrev pub multiplier : Tableau → ℕ → ℤ
multiplier t i = t.entry 0 (t.given.columns + i)

-- z turned by the sign of a row's basic entry, and once more where the upper bound is broken
abbrev pub turned_by : Bound → ℤ → ℤ → ℤ
turned_by Lower basic z = turned basic z
turned_by Upper basic z = neg_ℤ (turned basic z)

-- row i turned so that its value is above 0 wherever the columns stand in their bounds, where it is an empty row
abbrev pub turned_row : Tableau → ℕ → Bound → ℕ → ℤ
turned_row t i broken j = turned_by broken (basic_entry t i) (t.entry i j)

-- the multiplier of row k in the ray of the empty row i
abbrev pub ray : Tableau → ℕ → Bound → ℕ → ℤ
ray t i broken k = turned_row t i broken (t.given.columns + k)

-- what is left of the costs by the scale when the rows by their multipliers are taken away, at column j
abbrev pub reduced_cost : Given → ℤ → (ℕ → ℤ) → ℕ → ℤ
reduced_cost g scale mults j = scale *ℤ g.cost j -ℤ sum_to (λ i. mults i *ℤ g.coefficient i j) g.rows

-- the value of a scale and multipliers; where the multipliers have right signs, no point in the bounds that meets the rows costs
-- less, times the scale
abbrev pub dual_value : Given → ℤ → (ℕ → ℤ) → ℤ
dual_value g scale mults =
    sum_to (λ i. mults i *ℤ g.low (g.columns + i)) g.rows
    +ℤ sum_to (λ j. let r = reduced_cost g scale mults j in int_min (r *ℤ g.low j) (r *ℤ g.high j)) g.columns
