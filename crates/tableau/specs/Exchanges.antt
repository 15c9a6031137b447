-- Which exchanges are good, and what they leave. A row is outside where its basic value breaks a bound; a column is
-- eligible for it where its move into its range moves the basic value towards that bound.
use Rattle.std.specs.Prelude.{◌≡◌, ◌≢◌, ℕ, ◌*◌, ◌≤◌, ◌<◌, Bool, true, false, cond, ◌⊎◌, ℤ, pos, ◌-ℤ◌, ◌*ℤ◌, ◌<ℤ◌, unsigned_abs}
use Rattle.numbers.specs.Divisors.{Divides}
use Rattle.tableau.specs.Programs.{Given, last_column}
use Rattle.tableau.specs.Signs.{IsSameSign, IsOppositeSign, turned}
use Rattle.tableau.specs.Tableaux.{Tableau, IsRow, IsColumn, IsNonbasic, basic_entry, row_at}
use Rattle.tableau.specs.declared.bound.Bound.{Bound}
use Rattle.tableau.specs.declared.bound.Bound.TheVariants.{Lower, Upper}
use Rattle.tableau.specs.declared.exchange.Exchange.{Exchange}

-- the basic value of row i breaks this bound of the basic column
abbrev pub IsOutside : Tableau → ℕ → Bound → Type 0
IsOutside t i Lower = IsSameSign (basic_entry t i) (row_at t i (t.given.low (t.basis i)))
IsOutside t i Upper =
    (t.given.has_high (t.basis i) ≡ true) × IsOppositeSign (basic_entry t i) (row_at t i (t.given.high (t.basis i)))

-- the two bounds of a column differ; without an upper one they count as differing
abbrev pub IsMovable : Given → ℕ → Type 0
IsMovable g j = g.has_high j ≡ true → g.low j ≢ g.high j

-- moving a column from its bound into its range moves the basic value towards the broken bound: whether it stands at its
-- upper bound, its entry, and the entry of the basic column
abbrev pub IsToward : Bound → Bool → ℤ → ℤ → Type 0
IsToward Lower high entry basic = cond high (IsSameSign basic entry) (IsOppositeSign basic entry)
IsToward Upper high entry basic = cond high (IsOppositeSign basic entry) (IsSameSign basic entry)

-- column j is eligible for row i, whose basic value breaks this bound
pub record IsEligible (t : Tableau) (i : ℕ) (broken : Bound) (j : ℕ) : Type 0 where
  pub column : IsColumn t j
  pub nonbasic : IsNonbasic t j
  pub movable : IsMovable t.given j
  pub toward : IsToward broken (t.at_high j) (t.entry i j) (basic_entry t i)

-- the ratio of column j in row i, the magnitude of its cost entry over that of its row entry, is at most that of column k
abbrev pub IsRatioAtMost : Tableau → ℕ → ℕ → ℕ → Type 0
IsRatioAtMost t i j k =
    unsigned_abs (t.entry 0 j) * unsigned_abs (t.entry i k) ≤ unsigned_abs (t.entry 0 k) * unsigned_abs (t.entry i j)

-- row i has the least-numbered basic column of all rows outside, and column c is the least-numbered one of the eligible columns
-- whose ratio is at most its own
pub record IsFirst (t : Tableau) (i : ℕ) (broken : Bound) (c : ℕ) : Type 0 where
  pub row : (k : ℕ) (other : Bound) → IsRow t k → IsOutside t k other → t.basis i ≤ t.basis k
  pub column : (j : ℕ) → IsEligible t i broken j → IsRatioAtMost t i j c → c ≤ j

-- the exchange of row i, which breaks this bound, and column c is good
pub record IsGoodAt (t : Tableau) (i c : ℕ) (broken : Bound) : Type 0 where
  pub row : IsRow t i
  pub outside : IsOutside t i broken
  pub eligible : IsEligible t i broken c
  pub least : (j : ℕ) → IsEligible t i broken j → IsRatioAtMost t i c j
  pub tie : (t.entry 0 c ≢ pos 0) ⊎ IsFirst t i broken c

abbrev pub IsGood : Tableau → Exchange → Type 0
IsGood t x = (broken : Bound) × IsGoodAt t x.row x.col broken

-- at column j, row k times the magnitude of the pivot, less the multiple of the pivot row i that makes the entry at column c 0
abbrev pub kept_product : Tableau → ℕ → ℕ → ℕ → ℕ → ℤ
kept_product t i c k j = pos (unsigned_abs (t.entry i c)) *ℤ t.entry k j

abbrev pub taken_product : Tableau → ℕ → ℕ → ℕ → ℕ → ℤ
taken_product t i c k j = turned (t.entry i c) (t.entry k c) *ℤ t.entry i j

abbrev pub reduced : Tableau → ℕ → ℕ → ℕ → ℕ → ℤ
reduced t i c k j = kept_product t i c k j -ℤ taken_product t i c k j

-- `to` is the row `from`, with entries up to the last column, divided by the greatest common divisor of its entries
pub record IsDivided (last : ℕ) (from to : ℕ → ℤ) : Type 0 where
  pub divisor : ℤ
  pub positive : pos 0 <ℤ divisor
  pub each : (j : ℕ) → j ≤ last → from j ≡ divisor *ℤ to j
  pub greatest : (d : ℤ) → ((j : ℕ) → j ≤ last → Divides d (from j)) → Divides d divisor

-- what becomes of row k in the exchange of row i and column c
pub record IsRowResult (t : Tableau) (i c k : ℕ) (to : ℕ → ℤ) : Type 0 where
  pub same : (k ≡ i) ⊎ (t.entry k c ≡ pos 0) → (j : ℕ) → j ≤ last_column t.given → to j ≡ t.entry k j
  pub divided : k ≢ i → t.entry k c ≢ pos 0 → IsDivided (last_column t.given) (reduced t i c k) to

-- where structural column j stands behind the exchange: by the sign of its cost entry; where that is 0 it stays, but for the
-- column that leaves, which stands at the bound that it broke
pub record IsStandingResult (t : Tableau) (leaving : ℕ) (broken : Bound) (t' : Tableau) (j : ℕ) : Type 0 where
  pub above : pos 0 <ℤ t'.entry 0 j → t'.at_high j ≡ false
  pub below : t'.entry 0 j <ℤ pos 0 → t'.at_high j ≡ true
  pub stays : t'.entry 0 j ≡ pos 0 → j ≢ leaving → t'.at_high j ≡ t.at_high j
  pub breaks_low : t'.entry 0 j ≡ pos 0 → j ≡ leaving → broken ≡ Lower → t'.at_high j ≡ false
  pub breaks_high : t'.entry 0 j ≡ pos 0 → j ≡ leaving → broken ≡ Upper → t'.at_high j ≡ true

-- t' is the result of the good exchange of row i, which breaks this bound, and column c
pub record IsResultAt (t : Tableau) (i c : ℕ) (broken : Bound) (t' : Tableau) : Type 0 where
  pub given : t'.given ≡ t.given
  pub rows : (k : ℕ) → k ≤ t.given.rows → IsRowResult t i c k (t'.entry k)
  pub entering : t'.basis i ≡ c
  pub basis : (k : ℕ) → IsRow t k → k ≢ i → t'.basis k ≡ t.basis k
  pub standing : (j : ℕ) → 1 ≤ j → j ≤ t.given.columns → IsStandingResult t (t.basis i) broken t' j
  pub slacks_low : (j : ℕ) → t.given.columns < j → j ≤ last_column t.given → t'.at_high j ≡ false

-- t' is the result of the exchange, which is good (of one whose row is within its bounds nothing is said)
abbrev pub IsResult : Tableau → Exchange → Tableau → Type 0
IsResult t x t' = (broken : Bound) → IsOutside t x.row broken → IsResultAt t x.row x.col broken t'
