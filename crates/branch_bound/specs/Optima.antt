-- The splits for which the optimum of a box's program asks, and the budget of exchanges within which it has to be reached.
use Rattle.std.specs.Prelude.{ℕ, List, ℤ, unsigned_abs}
use Rattle.road_types.specs.declared.road.Road.{Road}
use Rattle.milp_builder.specs.FoundPlans.{IsPartRemoval, IsOtherVolume}
use Rattle.milp_builder.specs.declared.boxes.Split.{Split}
use Rattle.milp_builder.specs.declared.boxes.Split.TheVariants.{Removal, Height}

-- the exchanges that the simplex may make on one box
abbrev pub exchange_budget : Road → ℕ
exchange_budget road = unsigned_abs road.pivots

-- the point asks for the split: a block that is opened in part is to be open at the stage or not, or a section that is filled and cut
-- otherwise than its offset asks is to lie above or below an offset
abbrev pub AsksFor : Road → ℤ → List ℤ → Split → Type 0
AsksFor road den point (Removal k t) = IsPartRemoval road den point k t
AsksFor road den point (Height i at) = IsOtherVolume road den point i

-- it asks for some split
abbrev pub AsksForSplit : Road → ℤ → List ℤ → Type 0
AsksForSplit road den point = (split : Split) × AsksFor road den point split
