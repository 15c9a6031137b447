-- A box is split into two: at an opening stage of a block, or at an offset of a section.
use Rattle.std.specs.Prelude.{◌≡◌, ℕ, ◌+◌, ◌-◌, ◌≤◌, ◌<◌, ◌⊎◌, Option, Some, None, slice_set, ℤ, ◌<ℤ◌}
use Rattle.road_types.specs.Numbered.{IsNumber}
use Rattle.road_types.specs.Breakpoints.{IsBreakpoint}
use Rattle.road_types.specs.Ranges.{height_range}
use Rattle.road_types.specs.Road.{section, section_count, block_count}
use Rattle.road_types.specs.declared.road.Road.{Road}
use Rattle.plan_rules.specs.declared.plan.Plan.{Plan}
use Rattle.milp_builder.specs.Boxes.{opening_range, IsBoxOf, IsInside}
use Rattle.milp_builder.specs.declared.boxes.BoxRange.{BoxRange}
use Rattle.milp_builder.specs.declared.boxes.Split.{Split}
use Rattle.milp_builder.specs.declared.boxes.Split.TheVariants.{Removal, Height}

-- the block has this number, and both the openings up to the stage and those after it are some
pub record SplitsOpenings (road : Road) (box : BoxRange) (k stage : ℕ) : Type 0 where
  pub number : IsNumber k (block_count road)
  pub up_to : (opening_range box k).0 ≤ stage
  pub after : stage < (opening_range box k).1

-- the section has this number, and the offset is one of its breakpoints strictly inside the range
pub record SplitsOffsets (road : Road) (box : BoxRange) (i : ℕ) (at : ℤ) : Type 0 where
  pub number : IsNumber i (section_count road)
  pub breakpoint : IsBreakpoint (section road i) at
  pub above : (height_range box.heights i).0 <ℤ at
  pub below : at <ℤ (height_range box.heights i).1

-- the box can be split so
abbrev pub IsSplitOf : Road → BoxRange → Split → Type 0
IsSplitOf road box (Removal k stage) = SplitsOpenings road box k stage
IsSplitOf road box (Height i at) = SplitsOffsets road box i at

-- the box with another range of openings of block k
abbrev pub with_opening_range : BoxRange → ℕ → ℕ × ℕ → BoxRange
with_opening_range box k range = record box { opens = slice_set box.opens (k - 1) range }

-- the box with another range of offsets of section i
abbrev pub with_height_range : BoxRange → ℕ → ℤ × ℤ → BoxRange
with_height_range box i range = record box { heights = slice_set box.heights (i - 1) range }

-- the part with the openings up to the stage, or the offsets up to the breakpoint
abbrev pub first_part : BoxRange → Split → BoxRange
first_part box (Removal k stage) = with_opening_range box k ((opening_range box k).0, stage)
first_part box (Height i at) = with_height_range box i ((height_range box.heights i).0, at)

-- the part with the openings after the stage, or the offsets from the breakpoint on
abbrev pub second_part : BoxRange → Split → BoxRange
second_part box (Removal k stage) = with_opening_range box k (stage + 1, (opening_range box k).1)
second_part box (Height i at) = with_height_range box i (at, (height_range box.heights i).1)

-- both parts where the box can be split so, and nothing where it can't
abbrev pub AreParts : Road → BoxRange → Split → Option (BoxRange × BoxRange) → Type 0
AreParts road box split None = ¬ IsSplitOf road box split
AreParts road box split (Some parts) = IsSplitOf road box split × (parts ≡ (first_part box split, second_part box split))

-- two boxes of the road such that each plan inside the box is inside one of them or both
pub record Covers (road : Road) (box first second : BoxRange) : Type 0 where
  pub first_fits : IsBoxOf road first
  pub second_fits : IsBoxOf road second
  pub each : (plan : Plan) → IsInside road plan box → IsInside road plan first ⊎ IsInside road plan second
