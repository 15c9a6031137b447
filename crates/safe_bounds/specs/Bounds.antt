-- What a value says of all points of a program, over every denominator.
use Rattle.std.specs.Prelude.{ℤ, List, pos, ◌*ℤ◌, ◌≤ℤ◌}
use Rattle.programs.specs.Programs.{Program}
use Rattle.programs.specs.Points.{IsPoint, cost_of_point}

-- the value over the scale is at most the cost of each point: multiplied out, over the point's denominator
pub record BoundsCosts (program : Program) (scale value : ℤ) : Type 0 where
  pub each : (den : ℤ) (point : List ℤ) → pos 1 ≤ℤ den → IsPoint program den point → (den *ℤ value) ≤ℤ (scale *ℤ cost_of_point program point)

-- no point over any denominator meets the rows in the bounds
pub record HasNoPoint (program : Program) : Type 0 where
  pub none : (den : ℤ) (point : List ℤ) → pos 1 ≤ℤ den → IsPoint program den point → ⊥
