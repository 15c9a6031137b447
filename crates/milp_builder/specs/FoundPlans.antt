-- Which plan a point of a box's program stands for: one where its removals are whole and its volumes exact, and else none. Volumes
-- are exact wherever no breakpoint lies strictly inside a section's range.
use Rattle.std.specs.Prelude.{◌≡◌, ℕ, ◌≤◌, ◌⊎◌, Option, Some, None, List, ℤ, pos, ◌≤ℤ◌}
use Rattle.programs.specs.Points.{IsPoint}
use Rattle.road_types.specs.Numbered.{IsNumber}
use Rattle.road_types.specs.Ranges.{height_range}
use Rattle.road_types.specs.Road.{section, section_count, block_count}
use Rattle.road_types.specs.declared.road.Road.{Road}
use Rattle.volume_lines.specs.InnerBreakpoints.{HasBreakpointInside}
use Rattle.plan_rules.specs.declared.plan.Plan.{Plan}
use Rattle.plan_rules.specs.Rules.{IsAdmissible}
use Rattle.road_points.specs.PlanPoints.{point_of}
use Rattle.road_points.specs.Shown.{IsWholeAt, HasWholeRemovals, IsExactAt, HasExactVolumes}
use Rattle.milp_builder.specs.Boxes.{IsBoxOf, IsInside}
use Rattle.milp_builder.specs.BoxPrograms.{box_program}
use Rattle.milp_builder.specs.declared.boxes.BoxRange.{BoxRange}

-- block k is opened by stage t in part
pub record IsPartRemoval (road : Road) (den : ℤ) (point : List ℤ) (k t : ℕ) : Type 0 where
  pub block : IsNumber k (block_count road)
  pub from_two : 2 ≤ t
  pub at_most : t ≤ road.stages
  pub not_whole : ¬ IsWholeAt road den point k t

-- section i is filled and cut otherwise than its offset asks
pub record IsOtherVolume (road : Road) (den : ℤ) (point : List ℤ) (i : ℕ) : Type 0 where
  pub number : IsNumber i (section_count road)
  pub not_exact : ¬ IsExactAt road den point i

-- some block is opened in part
abbrev pub HasPartRemoval : Road → ℤ → List ℤ → Type 0
HasPartRemoval road den point = (k : ℕ) × ((t : ℕ) × IsPartRemoval road den point k t)

-- some section has another volume, and then a breakpoint strictly inside its range
abbrev pub HasOtherVolume : Road → BoxRange → ℤ → List ℤ → Type 0
HasOtherVolume road box den point =
    (i : ℕ) × (IsOtherVolume road den point i × HasBreakpointInside (section road i) (height_range box.heights i))

-- the one admissible plan over den, inside the box, whose point this is
pub record IsPlanOfPoint (road : Road) (box : BoxRange) (den : ℤ) (point : List ℤ) (plan : Plan) : Type 0 where
  pub admissible : IsAdmissible road plan
  pub inside : IsInside road plan box
  pub den_is : plan.den ≡ den
  pub point_is : point_of road plan ≡ point
  pub only : (other : Plan) → IsAdmissible road other → other.den ≡ den → point_of road other ≡ point → other ≡ plan

-- that plan, or none where a block is opened in part or a section has another volume
abbrev pub IsFoundPlan : Road → BoxRange → ℤ → List ℤ → Option Plan → Type 0
IsFoundPlan road box den point None = HasPartRemoval road den point ⊎ HasOtherVolume road box den point
IsFoundPlan road box den point (Some plan) = IsPlanOfPoint road box den point plan

-- over any denominator from 1 on, a point of a box's program with whole removals and exact volumes is the point of one admissible
-- plan inside the box, and a section's volume is exact, or else a breakpoint lies strictly inside its range
pub record PointsArePlans (road : Road) : Type 0 where
  pub plans : (box : BoxRange) (den : ℤ) (point : List ℤ) → IsBoxOf road box → pos 1 ≤ℤ den → IsPoint (box_program road box) den point
      → HasWholeRemovals road den point → HasExactVolumes road den point → (plan : Plan) × IsPlanOfPoint road box den point plan
  pub volumes : (box : BoxRange) (den : ℤ) (point : List ℤ) → IsBoxOf road box → pos 1 ≤ℤ den → IsPoint (box_program road box) den point
      → (i : ℕ) → IsNumber i (section_count road) → IsExactAt road den point i ⊎ HasBreakpointInside (section road i) (height_range box.heights i)
