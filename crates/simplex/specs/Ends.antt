-- How a linear program ends, each end with the trail of good exchanges that shows it: with an optimum; with a ray that no point allows;
-- with the budget of exchanges spent; or with an operation whose exact value is out of range.
use Rattle.std.specs.Prelude.{◌≡◌, ℕ, ◌≤◌, List, [], length, ℤ, pos, ◌*ℤ◌, ◌≤ℤ◌, ◌<ℤ◌, unsigned_abs}
use Rattle.std.specs.List.{All}
use Rattle.programs.specs.Programs.{Program}
use Rattle.programs.specs.Points.{IsPoint, cost_of_point}
use Rattle.safe_bounds.specs.Values.{value_of, HasRightSigns}
use Rattle.tableau.specs.Tableaux.{Tableau, IsRow}
use Rattle.tableau.specs.Exchanges.{IsOutside}
use Rattle.tableau.specs.Trails.{IsAfter}
use Rattle.tableau.specs.Ends.{IsOptimal, IsEmptyRow}
use Rattle.tableau.specs.OwnNumbers.{scale_of, multipliers_of, ray_of, IsPointOf}
use Rattle.tableau.specs.Operations.{IsOutOfRangeAfter, IsWideStart}
use Rattle.tableau.specs.declared.bound.Bound.{Bound}
use Rattle.tableau.specs.declared.exchange.Exchange.{Exchange}
use Rattle.tableau.specs.declared.op.Op.{Op}
use Rattle.simplex.specs.Givens.{given_of}
use Rattle.simplex.specs.declared.lp_end.LpEnd.{LpEnd}
use Rattle.simplex.specs.declared.lp_end.LpEnd.TheVariants.{Best, Empty, Pivots, Wide}
use Rattle.simplex.specs.declared.lp_end.Used.{Used}
use Rattle.simplex.specs.declared.lp_end.Used.TheVariants.{First, Second}

-- a trail of good exchanges, no longer than the budget, leads from the start of the program to the tableau
pub record IsReached (program : Program) (budget : ℕ) (trail : List Exchange) (t : Tableau) : Type 0 where
  pub within : length trail ≤ budget
  pub after : IsAfter (given_of program) trail t

-- scale and multipliers are the tableau's own; the scale is at least 1, and the multipliers have right signs
pub record AreOwnNumbers (program : Program) (t : Tableau) (scale : ℤ) (mults : List ℤ) : Type 0 where
  pub own_scale : scale ≡ scale_of t
  pub own_mults : mults ≡ multipliers_of t
  pub scale_from_one : pos 1 ≤ℤ scale
  pub right_signs : HasRightSigns program mults

-- the trail leads to an optimal tableau; point and denominator, scale and multipliers are that tableau's own; the point meets the rows
-- in the bounds, and its cost times the scale is the multipliers' value times the denominator
pub record IsOptimum (program : Program) (budget : ℕ) (trail : List Exchange) (den : ℤ) (point : List ℤ) (scale : ℤ) (mults : List ℤ) : Type 0 where
  pub tableau : Tableau
  pub reached : IsReached program budget trail tableau
  pub optimal : IsOptimal tableau
  pub own_point : IsPointOf tableau den point
  pub own : AreOwnNumbers program tableau scale mults
  pub den_from_one : pos 1 ≤ℤ den
  pub meets : IsPoint program den point
  pub costs_value : cost_of_point program point *ℤ scale ≡ value_of program scale mults *ℤ den

-- the trail leads to a tableau with an empty row; the ray is that row's, has right signs, and a value above 0 without the costs
pub record IsDead (program : Program) (budget : ℕ) (trail : List Exchange) (numbers : List ℤ) (scale : ℤ) (mults : List ℤ) : Type 0 where
  pub tableau : Tableau
  pub reached : IsReached program budget trail tableau
  pub row : ℕ
  pub broken : Bound
  pub empty : IsEmptyRow tableau row broken
  pub own_ray : numbers ≡ ray_of tableau row broken
  pub ray_signs : HasRightSigns program numbers
  pub above : pos 0 <ℤ value_of program (pos 0) numbers
  pub own : AreOwnNumbers program tableau scale mults

-- the trail is as long as the budget, and a basic value of the tableau after it breaks a bound
pub record IsSpent (program : Program) (budget : ℕ) (trail : List Exchange) (scale : ℤ) (mults : List ℤ) : Type 0 where
  pub tableau : Tableau
  pub reached : IsReached program budget trail tableau
  pub whole_budget : length trail ≡ budget
  pub row : ℕ
  pub broken : Bound
  pub is_row : IsRow tableau row
  pub outside : IsOutside tableau row broken
  pub own : AreOwnNumbers program tableau scale mults

-- on the tableau after the trail, the operation has an exact value of a magnitude above the greatest
pub record IsPastRange (greatest : ℕ) (program : Program) (budget : ℕ) (trail : List Exchange) (op : Op) : Type 0 where
  pub tableau : Tableau
  pub reached : IsReached program budget trail tableau
  pub out_of_range : IsOutOfRangeAfter greatest trail tableau op

-- and scale and multipliers are that tableau's
pub record IsWide (greatest : ℕ) (program : Program) (budget : ℕ) (trail : List Exchange) (op : Op) (scale : ℤ) (mults : List ℤ) : Type 0 where
  pub past : IsPastRange greatest program budget trail op
  pub own : AreOwnNumbers program past.tableau scale mults

-- the program ends so, in numbers of a magnitude up to the greatest, with this budget of exchanges
abbrev pub IsEnd : ℕ → Program → ℕ → LpEnd → Type 0
IsEnd greatest program budget (Best trail den point scale mults) = IsOptimum program budget trail.items den point.items scale mults.items
IsEnd greatest program budget (Empty trail numbers scale mults) = IsDead program budget trail.items numbers.items scale mults.items
IsEnd greatest program budget (Pivots trail scale mults rough) = IsSpent program budget trail.items scale mults.items
IsEnd greatest program budget (Wide trail op scale mults rough) = IsWide greatest program budget trail.items op scale mults.items

-- before any exchange, the end names a number with which the tableau is started and which is above the greatest
abbrev pub IsWideAtStart : ℕ → Program → LpEnd → Type 0
IsWideAtStart greatest program (Wide trail op scale mults rough) = (trail.items ≡ []) × IsWideStart greatest (given_of program) op
IsWideAtStart greatest program end = ⊥

abbrev pub IsWithinRange : LpEnd → Type 0
IsWithinRange (Wide trail op scale mults rough) = ⊥
IsWithinRange end = Unit {0}

-- the end is that of numbers of the first range, where none was out of it; or it is that of the second range, since on the tableau
-- after the trail the operation has an exact value past the first
abbrev pub IsEndOfEither : ℕ → ℕ → Program → ℕ → LpEnd → Used → Type 0
IsEndOfEither first second program budget end First = IsEnd first program budget end × IsWithinRange end
IsEndOfEither first second program budget end (Second trail op) = IsEnd second program budget end × IsPastRange first program budget trail.items op

-- each number is of a magnitude up to the greatest
abbrev pub AreWithin : ℕ → List ℤ → Type 0
AreWithin greatest numbers = All (λ y. unsigned_abs y ≤ greatest) numbers

-- so are an end's multipliers, and its ray
abbrev pub HasNumbersWithin : ℕ → LpEnd → Type 0
HasNumbersWithin greatest (Best trail den point scale mults) = AreWithin greatest mults.items
HasNumbersWithin greatest (Empty trail numbers scale mults) = AreWithin greatest numbers.items × AreWithin greatest mults.items
HasNumbersWithin greatest (Pivots trail scale mults rough) = AreWithin greatest mults.items
HasNumbersWithin greatest (Wide trail op scale mults rough) = AreWithin greatest mults.items
