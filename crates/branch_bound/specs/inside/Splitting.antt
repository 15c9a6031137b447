-- Breakpoints strictly inside a range of offsets, and thicknesses of leading slabs strictly between two numbers. The split of a section's
-- heights that scores best.
use Rattle.std.specs.Prelude.{◌≡◌, ℕ, Option, Some, None, List, ℤ, ◌<ℤ◌}
use Rattle.road_types.specs.Numbered.{IsNumber}
use Rattle.road_types.specs.Breakpoints.{leading_thickness, IsBreakpoint}
use Rattle.road_types.specs.Ranges.{height_range}
use Rattle.road_types.specs.Road.{section}
use Rattle.road_types.specs.declared.road.Road.{Road}
use Rattle.road_types.specs.declared.road.Section.{Section}
use Rattle.road_types.specs.declared.road.Slab.{Slab}
use Rattle.road_points.specs.Shown.{IsExactAt}
use Rattle.milp_builder.specs.FoundPlans.{IsOtherVolume}
use Rattle.milp_builder.specs.declared.boxes.BoxRange.{BoxRange}
use Rattle.branch_bound.specs.declared.splitting.Candidate.{Candidate}

pub record IsInnerBreakpoint (s : Section) (range : ℤ × ℤ) (at : ℤ) : Type 0 where
  pub breakpoint : IsBreakpoint s at
  pub above : range.0 <ℤ at
  pub below : at <ℤ range.1

pub record IsInnerThickness (slabs : List Slab) (low high thickness : ℤ) : Type 0 where
  pub count : ℕ
  pub same : thickness ≡ leading_thickness slabs count
  pub above : low <ℤ thickness
  pub below : thickness <ℤ high

pub record HasNoInnerThickness (slabs : List Slab) (low high : ℤ) : Type 0 where
  pub none : (k : ℕ) → low <ℤ leading_thickness slabs k → leading_thickness slabs k <ℤ high → ⊥

-- the section is filled and cut otherwise than its offset asks, and the offset is a breakpoint strictly inside its range
pub record IsAskedHeight (road : Road) (box : BoxRange) (den : ℤ) (point : List ℤ) (candidate : Candidate) : Type 0 where
  pub other : IsOtherVolume road den point candidate.section
  pub inside : IsInnerBreakpoint (section road candidate.section) (height_range box.heights candidate.section) candidate.at

-- of the first sections: none where all are exact, and else such a split
abbrev pub IsBestOf : Road → BoxRange → ℤ → List ℤ → ℕ → Option Candidate → Type 0
IsBestOf road box den point count None = (i : ℕ) → IsNumber i count → IsExactAt road den point i
IsBestOf road box den point count (Some best) = IsAskedHeight road box den point best
