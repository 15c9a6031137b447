-- The straight lines between which a section's volume lies over a range of offsets: their slopes, and the right sides of the
-- four rows that say so. A slope is a slab's area in m², offsets are in mm, right sides in litres.
use Rattle.std.specs.Prelude.{◌&&◌, if◌then◌else◌, List, [], ◌∷◌, ◌++◌, map, ℤ, pos, neg_ℤ, ◌+ℤ◌, ◌-ℤ◌, ◌*ℤ◌, int_le, fold}
use Rattle.std.specs.Int.{int_min, int_max}
use Rattle.road_types.specs.Volumes.{net_volume, thickness_of}
use Rattle.road_types.specs.declared.road.Section.{Section}
use Rattle.road_types.specs.declared.road.Slab.{Slab}

-- the areas of the slabs that lie wholly between two depths, where the first slab begins at the depth `top`
unfoldable pub areas_between : List Slab → ℤ → ℤ → ℤ → List ℤ
areas_between [] top low high = []
areas_between (slab ∷ slabs) top low high =
    (if int_le low top && int_le (top +ℤ slab.thick) high then slab.area ∷ [] else [])
    ++ areas_between slabs (top +ℤ slab.thick) low high

-- the slopes of the section's volume between two offsets: below the ground those of cut slabs, above it those of fill slabs
abbrev pub slopes_between : Section → ℤ × ℤ → List ℤ
slopes_between s range =
    areas_between s.cut (pos 0) (neg_ℤ range.1) (neg_ℤ range.0) ++ areas_between s.fill (pos 0) range.0 range.1

-- the least of some areas, none of which is above 10,000,000
abbrev pub least_area : List ℤ → ℤ
least_area areas = fold int_min (pos 10000000) areas

-- the greatest of some areas, none of which is below 0
abbrev pub greatest_area : List ℤ → ℤ
greatest_area areas = fold int_max (pos 0) areas

-- the volume at an offset in whole mm
abbrev pub volume_at : Section → ℤ → ℤ
volume_at s offset = net_volume s.cut s.fill offset (pos 1)

-- The volume v at an offset u of the range keeps to four lines. With the least slope l and the greatest slope h:
--   v - l*u >= above_least,  h*u - v >= below_greatest,  l*u - v >= below_least,  v - h*u >= above_greatest.
-- The first two pass through the range's lower end, the others through its upper end.
pub record Lines : Type 0 where
  pub least : ℤ
  pub greatest : ℤ
  pub above_least : ℤ
  pub below_greatest : ℤ
  pub below_least : ℤ
  pub above_greatest : ℤ

-- the lines with these slopes through two points of the volume, (p, at_p) and (q, at_q)
abbrev pub lines_through : ℤ → ℤ → ℤ × ℤ → ℤ × ℤ → Lines
lines_through least greatest low high = record {
  least = least;
  greatest = greatest;
  above_least = low.1 -ℤ least *ℤ low.0;
  below_greatest = greatest *ℤ low.0 -ℤ low.1;
  below_least = least *ℤ high.0 -ℤ high.1;
  above_greatest = high.1 -ℤ greatest *ℤ high.0;
}

-- the lines of a section over a range of offsets
abbrev pub lines_over : Section → ℤ × ℤ → Lines
lines_over s range =
    lines_through (least_area (slopes_between s range)) (greatest_area (slopes_between s range))
    (range.0, volume_at s range.0) (range.1, volume_at s range.1)

-- the greatest area of all slabs on both sides
abbrev pub widest_area : Section → ℤ
widest_area s = greatest_area (map (λ slab. slab.area) (s.cut ++ s.fill))

-- the greater thickness of both sides
abbrev pub deepest : Section → ℤ
deepest s = int_max (thickness_of s.cut) (thickness_of s.fill)

-- the same line four times, at least as heavy as those over any range: in the weight of a road it stands for them
abbrev pub heaviest_lines : Section → Lines
heaviest_lines s =
    let area = widest_area s in
    let right = pos 2 *ℤ (area *ℤ deepest s) in
    record { least = area; greatest = area; above_least = right; below_greatest = right; below_least = right; above_greatest = right }
