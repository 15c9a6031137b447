-- Ranges of offsets, one for each section. Offsets are in mm, and the ends belong to a range.
use Rattle.std.specs.Prelude.{◌≡◌, ℕ, ◌+◌, List, length, map, ℤ, pos, neg_ℤ, ◌<ℤ◌}
use Rattle.road_types.specs.Numbered.{numbered, IsNumber}
use Rattle.road_types.specs.Volumes.{thickness_of}
use Rattle.road_types.specs.Breakpoints.{IsBreakpoint}
use Rattle.road_types.specs.Road.{section, section_count}
use Rattle.road_types.specs.declared.road.Road.{Road}
use Rattle.road_types.specs.declared.road.Section.{Section}
use Rattle.road_types.specs.declared.road.Block.{Block}

-- the range of offsets of section i
abbrev pub height_range : List (ℤ × ℤ) → ℕ → ℤ × ℤ
height_range heights i = numbered (pos 0, pos 0) heights i

-- two different breakpoints of the section, the lower first
pub record IsHeightRange (s : Section) (range : ℤ × ℤ) : Type 0 where
  pub low : IsBreakpoint s range.0
  pub high : IsBreakpoint s range.1
  pub ordered : range.0 <ℤ range.1

-- such a range for each section
pub record AreHeightRanges (road : Road) (heights : List (ℤ × ℤ)) : Type 0 where
  pub count : length heights ≡ section_count road
  pub each : (i : ℕ) → IsNumber i (section_count road) → IsHeightRange (section road i) (height_range heights i)

-- from the bottom of a section's cut to the top of its fill
abbrev pub whole_range : Section → ℤ × ℤ
whole_range s = (neg_ℤ (thickness_of s.cut), thickness_of s.fill)

-- all offsets of all sections
abbrev pub whole_ranges : Road → List (ℤ × ℤ)
whole_ranges road = map whole_range road.sections

-- all openings of a block: from stage 2 to the one after the last, which means never
abbrev pub whole_opening : Road → ℕ × ℕ
whole_opening road = (2, road.stages + 1)

-- all openings of all blocks
abbrev pub whole_openings : Road → List (ℕ × ℕ)
whole_openings road = map (λ (block : Block). whole_opening road) road.blocks
