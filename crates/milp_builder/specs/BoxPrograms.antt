-- The program of a box, and that admissible plans are points of it: their points meet its rows in its bounds, at the plans' costs.
use Rattle.std.specs.Prelude.{◌≡◌}
use Rattle.programs.specs.Programs.{Program}
use Rattle.programs.specs.Points.{IsPoint, cost_of_point}
use Rattle.road_types.specs.RoadPrograms.{road_program}
use Rattle.road_types.specs.declared.road.Road.{Road}
use Rattle.plan_rules.specs.declared.plan.Plan.{Plan}
use Rattle.plan_rules.specs.Rules.{IsAdmissible}
use Rattle.plan_rules.specs.Costs.{cost_of}
use Rattle.road_points.specs.PlanPoints.{point_of}
use Rattle.milp_builder.specs.Boxes.{IsBoxOf, IsInside}
use Rattle.milp_builder.specs.declared.boxes.BoxRange.{BoxRange}

-- the road's program over the box's ranges
abbrev pub box_program : Road → BoxRange → Program
box_program road box = road_program road box.heights box.opens

-- an admissible plan inside a box, over any denominator, has a point of the box's program, and the point costs what the plan costs
pub record PlansArePoints (road : Road) : Type 0 where
  pub points : (plan : Plan) (box : BoxRange) → IsAdmissible road plan → IsBoxOf road box → IsInside road plan box
      → IsPoint (box_program road box) plan.den (point_of road plan)
  pub costs : (plan : Plan) (box : BoxRange) → IsAdmissible road plan → IsBoxOf road box → IsInside road plan box
      → cost_of_point (box_program road box) (point_of road plan) ≡ cost_of road plan
