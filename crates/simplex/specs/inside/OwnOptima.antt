-- An optimal tableau's own point, with what it shows of the program.
use Rattle.std.specs.Prelude.{◌≡◌, List, ℤ, pos, ◌*ℤ◌, ◌≤ℤ◌}
use Rattle.programs.specs.Programs.{Program}
use Rattle.programs.specs.Points.{IsPoint, cost_of_point}
use Rattle.safe_bounds.specs.Values.{value_of}
use Rattle.tableau.specs.Tableaux.{Tableau}
use Rattle.tableau.specs.OwnNumbers.{scale_of, multipliers_of, IsPointOf}

-- the point over den is the tableau's, meets the rows in the bounds, and costs what the tableau's multipliers are worth
pub record IsOwnOptimum (program : Program) (t : Tableau) (den : ℤ) (point : List ℤ) : Type 0 where
  pub own_point : IsPointOf t den point
  pub den_from_one : pos 1 ≤ℤ den
  pub meets : IsPoint program den point
  pub costs_value : cost_of_point program point *ℤ scale_of t ≡ value_of program (scale_of t) (multipliers_of t) *ℤ den
