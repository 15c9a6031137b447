-- Boxes of plans: a range of opening stages for each block, and a range of offsets for each section. Ends are included;
-- blocks and sections are numbered from 1, offsets are in mm.
use Rattle.std.specs.Prelude.{◌≡◌, ℕ, ◌+◌, ◌≤◌, length}
use Rattle.road_types.specs.Numbered.{numbered, IsNumber}
use Rattle.road_types.specs.Ranges.{height_range, IsHeightRange, whole_ranges, whole_openings}
use Rattle.road_types.specs.Road.{section, section_count, block_count}
use Rattle.road_types.specs.declared.road.Road.{Road}
use Rattle.plan_rules.specs.declared.plan.Plan.{Plan}
use Rattle.plan_rules.specs.Plans.{opening}
use Rattle.plan_rules.specs.Rules.{IsWithin, offset_of}
use Rattle.milp_builder.specs.declared.boxes.BoxRange.{BoxRange}

-- the range of opening stages of block k
abbrev pub opening_range : BoxRange → ℕ → ℕ × ℕ
opening_range box k = numbered (0, 0) box.opens k

-- some stages from 2 on, up to the one after the last
pub record IsOpeningRange (road : Road) (range : ℕ × ℕ) : Type 0 where
  pub from_two : 2 ≤ range.0
  pub some : range.0 ≤ range.1
  pub at_most : range.1 ≤ road.stages + 1

-- the box fits the road: a range for each block and for each section
pub record IsBoxOf (road : Road) (box : BoxRange) : Type 0 where
  pub opens_count : length box.opens ≡ block_count road
  pub heights_count : length box.heights ≡ section_count road
  pub opens : (k : ℕ) → IsNumber k (block_count road) → IsOpeningRange road (opening_range box k)
  pub heights : (i : ℕ) → IsNumber i (section_count road) → IsHeightRange (section road i) (height_range box.heights i)

-- first <= x <= last
pub record IsAmong (range : ℕ × ℕ) (x : ℕ) : Type 0 where
  pub from : range.0 ≤ x
  pub to : x ≤ range.1

-- every opening stage and every offset of the plan lies in its range
pub record IsInside (road : Road) (plan : Plan) (box : BoxRange) : Type 0 where
  pub opens : (k : ℕ) → IsNumber k (block_count road) → IsAmong (opening_range box k) (opening plan k)
  pub heights : (i : ℕ) → IsNumber i (section_count road)
      → IsWithin (height_range box.heights i).0 (height_range box.heights i).1 plan.den (offset_of road plan i)

-- every opening, and every offset within the slabs
abbrev pub root_box : Road → BoxRange
root_box road = record { opens = whole_openings road; heights = whole_ranges road }
