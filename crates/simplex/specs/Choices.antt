-- What the simplex does next with a tableau.
use Rattle.std.specs.Prelude.{◌≡◌, ℕ}
use Rattle.tableau.specs.Tableaux.{Tableau}
use Rattle.tableau.specs.Exchanges.{IsGood}
use Rattle.tableau.specs.Ends.{IsOptimal, IsEmptyRow}
use Rattle.tableau.specs.Operations.{IsOutOfRange}
use Rattle.simplex.specs.declared.choice.Choice.{Choice}
use Rattle.simplex.specs.declared.choice.Choice.TheVariants.{Optimal, Empty, Good, Wide}

-- it is optimal, a row is empty, an exchange is good, or an operation is out of range
abbrev pub IsChoice : ℕ → Tableau → Choice → Type 0
IsChoice greatest t Optimal = IsOptimal t
IsChoice greatest t (Empty row broken) = IsEmptyRow t row broken
IsChoice greatest t (Good swap) = IsGood t swap
IsChoice greatest t (Wide op) = IsOutOfRange greatest t op

-- the simplex stops before a good exchange only where as many exchanges as the budget were made
abbrev pub StopsAfter : ℕ → ℕ → Choice → Type 0
StopsAfter budget made (Good swap) = made ≡ budget
StopsAfter budget made _ = Unit {0}
