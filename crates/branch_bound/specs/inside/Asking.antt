-- The split for which a point of a box's program asks, or that it asks for none.
use Rattle.std.specs.Prelude.{List, ℤ}
use Rattle.road_types.specs.declared.road.Road.{Road}
use Rattle.road_points.specs.Shown.{HasWholeRemovals, HasExactVolumes}
use Rattle.milp_builder.specs.Parts.{IsSplitOf}
use Rattle.milp_builder.specs.declared.boxes.BoxRange.{BoxRange}
use Rattle.milp_builder.specs.declared.boxes.Split.{Split}
use Rattle.branch_bound.specs.Optima.{AsksFor}

-- a split for which the point asks, and which can be made
pub record IsAsked (road : Road) (box : BoxRange) (den : ℤ) (point : List ℤ) (split : Split) : Type 0 where
  pub splits : IsSplitOf road box split
  pub asks : AsksFor road den point split

-- removals are whole and volumes exact
pub record AsksForNothing (road : Road) (den : ℤ) (point : List ℤ) : Type 0 where
  pub whole : HasWholeRemovals road den point
  pub exact : HasExactVolumes road den point
