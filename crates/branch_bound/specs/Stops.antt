-- How a node's simplex stops without an optimum that can be used: its exchanges are spent, an operation has a value past 128 bits, or a
-- number that a certificate or a plan must hold is past its width.
use Rattle.std.specs.Prelude.{◌≡◌, ℕ, ◌^◌, ◌-◌, ◌⊎◌, List, length, Option, Some, None, ℤ, pos, ◌*ℤ◌, ◌≤ℤ◌, ◌<ℤ◌, unsigned_abs}
use Rattle.std.specs.List.{All, Contains}
use Rattle.algebra.specs.Scale.{greatest_scale}
use Rattle.numbers.specs.Fractions.{Fraction}
use Rattle.programs.specs.Programs.{Program}
use Rattle.programs.specs.Points.{cost_of_point}
use Rattle.safe_bounds.specs.Values.{value_of}
use Rattle.safe_bounds.specs.Narrowing.{IsNarrowed}
use Rattle.road_types.specs.declared.road.Road.{Road}
use Rattle.road_points.specs.Shown.{HasWholeRemovals, HasExactVolumes}
use Rattle.tableau.specs.Tableaux.{Tableau, IsRow}
use Rattle.tableau.specs.Exchanges.{IsOutside}
use Rattle.tableau.specs.Ends.{IsOptimal, IsEmptyRow}
use Rattle.tableau.specs.Operations.{IsOutOfRangeAfter}
use Rattle.tableau.specs.OwnNumbers.{scale_of, multipliers_of, ray_of, IsPointOf}
use Rattle.tableau.specs.declared.bound.Bound.{Bound}
use Rattle.tableau.specs.declared.exchange.Exchange.{Exchange}
use Rattle.simplex.specs.Ends.{IsReached}
use Rattle.branch_bound.specs.Optima.{exchange_budget}
use Rattle.branch_bound.specs.declared.notes.NodeNote.{NodeNote}
use Rattle.branch_bound.specs.declared.notes.NodeNote.TheVariants.{Fractional, Closed, Dead, Pivots, Wide, Limit, Nodes}

-- the trail is as long as the budget of exchanges, and some basic value still breaks a bound
pub record HasSpentBudget (road : Road) (trail : List Exchange) (t : Tableau) : Type 0 where
  pub whole_budget : length trail ≡ exchange_budget road
  pub row : ℕ
  pub broken : Bound
  pub is_row : IsRow t row
  pub outside : IsOutside t row broken

-- the greatest magnitude of the numbers
pub record IsGreatestMagnitude (numbers : List ℤ) (greatest : ℤ) : Type 0 where
  pub each : All (λ x. pos (unsigned_abs x) ≤ℤ greatest) numbers
  pub one : ℤ
  pub is_one : Contains numbers one
  pub magnitude : pos (unsigned_abs one) ≡ greatest

-- the number is the greatest magnitude of the ray of an empty row, and narrowed to it the ray no longer shows the box empty
pub record IsRayPastLimit (program : Program) (t : Tableau) (number : ℤ) : Type 0 where
  pub row : ℕ
  pub broken : Bound
  pub empty : IsEmptyRow t row broken
  pub greatest : IsGreatestMagnitude (ray_of t row broken) number
  pub narrow_scale : ℤ
  pub narrow_mults : List ℤ
  pub narrowed : IsNarrowed number (ray_of t row broken) narrow_scale narrow_mults
  pub shows_nothing : value_of program (pos 0) narrow_mults ≤ℤ pos 0

-- the number is the denominator of an optimal point with whole removals and exact volumes
pub record IsDenominatorPastLimit (road : Road) (t : Tableau) (number : ℤ) : Type 0 where
  pub optimal : IsOptimal t
  pub point : List ℤ
  pub own_point : IsPointOf t number point
  pub whole : HasWholeRemovals road number point
  pub exact : HasExactVolumes road number point

-- the certificate has a plan that costs at most the point over its denominator
abbrev pub HasPlanWithin : Option Fraction → Program → ℤ → List ℤ → Type 0
HasPlanWithin None program den point = ⊥
HasPlanWithin (Some cost) program den point = (cost.num *ℤ den) ≤ℤ (cost_of_point program point *ℤ cost.den)

-- the number is the scale, or the magnitude of a multiplier, of an optimal point that asks for no split; where its denominator is within
-- the limit, the certificate has a plan that costs no more
pub record IsMultiplierPastLimit (road : Road) (cost : Option Fraction) (program : Program) (t : Tableau) (number : ℤ) : Type 0 where
  pub optimal : IsOptimal t
  pub den : ℤ
  pub point : List ℤ
  pub own_point : IsPointOf t den point
  pub whole : HasWholeRemovals road den point
  pub exact : HasExactVolumes road den point
  pub own : (number ≡ scale_of t) ⊎ ((y : ℤ) × (Contains (multipliers_of t) y × (number ≡ pos (unsigned_abs y))))
  pub plan : den ≤ℤ pos greatest_scale → HasPlanWithin cost program den point

-- one of the three numbers of the tableau, past the limit
pub record IsPastLimit (road : Road) (cost : Option Fraction) (program : Program) (t : Tableau) (number : ℤ) : Type 0 where
  pub past : pos greatest_scale <ℤ number
  pub which : IsRayPastLimit program t number ⊎ (IsDenominatorPastLimit road t number ⊎ IsMultiplierPastLimit road cost program t number)

-- the note says how the simplex stopped at the tableau after its trail; an optimum, a closed leaf and a dead one are no stop
abbrev pub IsStop : Road → Option Fraction → Program → NodeNote → Tableau → Type 0
IsStop road cost program (Pivots trail) t = IsReached program (exchange_budget road) trail t × HasSpentBudget road trail t
IsStop road cost program (Wide trail op) t =
    IsReached program (exchange_budget road) trail t × IsOutOfRangeAfter (2 ^ 127 - 1) trail t op
IsStop road cost program (Limit trail number) t =
    IsReached program (exchange_budget road) trail t × IsPastLimit road cost program t number
IsStop road cost program Closed t = ⊥
IsStop road cost program Dead t = ⊥
IsStop road cost program (Fractional trail den point scale mults) t = ⊥
IsStop road cost program (Nodes trail den point scale mults) t = ⊥
