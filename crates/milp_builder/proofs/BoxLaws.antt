-- Plans are points of the programs of boxes, and points are plans.
use Rattle.std.proofs.Common.{List, sym, ◌∙◌, refl}
use Rattle.std.specs.Prelude.{ℤ, pos, ◌≤ℤ◌}
use Rattle.programs.specs.Points.{IsPoint}
use Rattle.road_types.specs.Ranges.{AreHeightRanges}
use Rattle.road_types.specs.Accepted.{IsAccepted}
use Rattle.road_types.specs.declared.road.Road.{Road}
use Rattle.plan_rules.specs.declared.plan.Plan.{Plan}
use Rattle.road_points.specs.Shown.{shown, HasWholeRemovals, HasExactVolumes}
use Rattle.road_points.specs.ShownPlan.{plan_at}
use Rattle.road_points.proofs.FormsHold.{OffsetsInside}
use Rattle.road_points.proofs.PlansArePoints.{OpeningsInside, plan_is_point, point_costs}
use Rattle.road_points.proofs.PointsArePlans.{AreOpeningRanges, exact_or_inside, plan_is_admissible, openings_inside, offsets_inside, same_point}
use Rattle.road_points.proofs.OnlyPlan.{same_plan}
use Rattle.milp_builder.specs.Boxes.{IsBoxOf, IsInside}
use Rattle.milp_builder.specs.BoxPrograms.{box_program, PlansArePoints}
use Rattle.milp_builder.specs.FoundPlans.{IsPlanOfPoint, PointsArePlans}
use Rattle.milp_builder.specs.declared.boxes.BoxRange.{BoxRange}

module _ (road : Road) (box : BoxRange) (fits : IsBoxOf road box) where
  pub height_ranges : AreHeightRanges road box.heights
  height_ranges = record { count = fits.heights_count; each = fits.heights }

  opening_ranges : AreOpeningRanges road box.opens
  opening_ranges = record { from_two = λ k n. (fits.opens k n).from_two; some = λ k n. (fits.opens k n).some; at_most = λ k n. (fits.opens k n).at_most }

  offsets_of : (plan : Plan) → IsInside road plan box → OffsetsInside road plan box.heights
  offsets_of plan h = record { each = h.heights }

  openings_of : (plan : Plan) → IsInside road plan box → OpeningsInside road plan box.opens
  openings_of plan h = record { from = λ k n. (h.opens k n).from; to = λ k n. (h.opens k n).to }

pub plans_are_points : (road : Road) → IsAccepted road → PlansArePoints road
plans_are_points road a = record {
  points = λ plan box h fits inside.
      plan_is_point road a.well_formed plan h box.heights box.opens (height_ranges road box fits) (offsets_of road box fits plan inside) (openings_of road box fits plan inside);
  costs = λ plan box h fits inside.
      point_costs road a.well_formed plan h box.heights box.opens (height_ranges road box fits) (offsets_of road box fits plan inside) (openings_of road box fits plan inside);
}

-- the plan that a point with whole removals and exact volumes shows is its plan
pub shown_plan_is : (road : Road) → IsAccepted road → (box : BoxRange) (den : ℤ) (point : List ℤ) → IsBoxOf road box → pos 1 ≤ℤ den → IsPoint (box_program road box) den point
    → HasWholeRemovals road den point → HasExactVolumes road den point → IsPlanOfPoint road box den point (plan_at road den (shown road point))
shown_plan_is road a box den point fits positive is_point whole exact =
    let well = a.well_formed in
    let ranges = height_ranges road box fits in
    let opens = opening_ranges road box fits in
    let admissible = plan_is_admissible road well box.heights box.opens ranges den positive point is_point opens whole exact in
    let offsets = offsets_inside road well box.heights box.opens ranges den positive point is_point opens whole in
    let openings = openings_inside road well box.heights box.opens ranges den positive point is_point opens whole in
    let same = same_point road well box.heights box.opens ranges den positive point is_point opens whole in
    record {
      admissible = admissible;
      inside = record { opens = λ k n. record { from = openings.from k n; to = openings.to k n }; heights = offsets.each };
      den_is = refl;
      point_is = same;
      only = λ other h d p. same_plan road well other (plan_at road den (shown road point)) h admissible d (p ∙ sym same);
    }

pub points_are_plans : (road : Road) → IsAccepted road → PointsArePlans road
points_are_plans road a = record {
  plans = λ box den point fits positive is_point whole exact. (plan_at road den (shown road point), shown_plan_is road a box den point fits positive is_point whole exact);
  volumes = λ box den point fits positive is_point i n.
      exact_or_inside road a.well_formed box.heights box.opens (height_ranges road box fits) den positive point is_point i n;
}
