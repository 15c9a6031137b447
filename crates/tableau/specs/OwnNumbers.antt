-- The numbers of a tableau in the order of rows and columns: its scale and multipliers, the multipliers that show a row to be empty,
-- and the point of an optimal tableau over its least common denominator.
use Rattle.std.specs.Prelude.{◌≡◌, ℕ, List, ℤ}
use Rattle.algebra.specs.Lists.{list_to}
use Rattle.tableau.specs.Tableaux.{Tableau}
use Rattle.tableau.specs.Ends.{IsLeastDenominator, IsPointOfTableau, multiplier, ray}
use Rattle.tableau.specs.declared.bound.Bound.{Bound}

-- the scale of the cost row
abbrev pub scale_of : Tableau → ℤ
scale_of t = t.entry 0 0

-- the multiplier of each row
abbrev pub multipliers_of : Tableau → List ℤ
multipliers_of t = list_to (multiplier t) t.given.rows

-- the multiplier of each row in the ray of an empty row
abbrev pub ray_of : Tableau → ℕ → Bound → List ℤ
ray_of t row broken = list_to (ray t row broken) t.given.rows

-- the point over den, one numerator for each structural column, is the tableau's, and den is the least that clears its basic values
pub record IsPointOf (t : Tableau) (den : ℤ) (point : List ℤ) : Type 0 where
  pub least : IsLeastDenominator t t.given.rows den
  pub at : ℕ → ℤ
  pub stands : IsPointOfTableau t den at
  pub shown : point ≡ list_to at t.given.columns
