-- The weight of a road by what stands on it: how much each section, segment, fixed point, hop, access road, pit and block adds
-- to it. A cap counts as the reach of an amount's column, in each row in which the amount stands.
use Rattle.std.specs.Prelude.{ℕ, ◌+◌, ◌-◌, ◌*◌, nat_le, if◌then◌else◌, neg_ℤ, unsigned_abs}
use Rattle.algebra.specs.Totals.{total_to}
use Rattle.programs.specs.Weights.{reach}
use Rattle.road_types.specs.Heights.{steps_along, segment_length}
use Rattle.road_types.specs.Lines.{widest_area, deepest}
use Rattle.road_types.specs.Road.{section, hop, fixed_point, pit, access, block, section_count, segment_count, hop_count, fixed_count, pit_count, access_count, block_count, access_unit_cost}
use Rattle.road_types.specs.declared.road.Road.{Road}
use Rattle.road_types.specs.declared.road.Section.{Section}
use Rattle.road_types.specs.declared.road.Hop.{Hop}

-- how far a segment's height, grade and curve reach

abbrev pub height_reach : Road → ℕ
height_reach road = reach (road.low, road.high)

abbrev pub grade_reach : Road → ℕ
grade_reach road = reach road.grade

abbrev pub curve_reach : Road → ℕ
curve_reach road = reach (neg_ℤ road.curve, road.curve)

-- a height and a grade after s steps

abbrev pub height_load : Road → ℕ → ℕ
height_load road s = height_reach road + (s * grade_reach road + s * s * curve_reach road)

abbrev pub grade_load : Road → ℕ → ℕ
grade_load road s = grade_reach road + 2 * s * curve_reach road

-- the most that is cut and filled at a section in one stage, and what that costs

abbrev pub earth_cap : Section → ℕ
earth_cap s = unsigned_abs s.cut_max + unsigned_abs s.fill_max

abbrev pub earth_cost : Section → ℕ
earth_cost s = unsigned_abs s.cut_cost * unsigned_abs s.cut_max + unsigned_abs s.fill_cost * unsigned_abs s.fill_max

-- the greatest area times the greatest depth
abbrev pub line_load : Section → ℕ
line_load s = unsigned_abs (widest_area s) * unsigned_abs (deepest s)

-- a section's offset row, its four volume rows, its balances and its costs
abbrev pub section_load : Road → Section → ℕ
section_load road s =
    (height_load road (unsigned_abs (steps_along road.knots s.station)) + (unsigned_abs (deepest s) + unsigned_abs s.ground))
    + (4 * (3 * line_load s + road.stages * earth_cap s) + (road.stages * earth_cap s + road.stages * earth_cost s))

-- the two rows that join a segment to the next one
abbrev pub joint_load : Road → ℕ → ℕ
joint_load road g =
    let s = unsigned_abs (segment_length road.knots g) in
    (height_load road s + height_reach road) + (grade_load road s + grade_reach road)

-- the two rows that limit the grade at a segment's end
abbrev pub segment_load : Road → ℕ → ℕ
segment_load road g =
    2 * grade_load road (unsigned_abs (segment_length road.knots g)) + (unsigned_abs road.grade.0 + unsigned_abs road.grade.1)

-- the two rows of a fixed point
abbrev pub fixed_load : Road → ℕ → ℕ
fixed_load road f =
    2 * height_load road (unsigned_abs (steps_along road.knots (fixed_point road f).station))
    + (unsigned_abs (fixed_point road f).low + unsigned_abs (fixed_point road f).high)

-- a hop's hauls stand in the balances of two sections
abbrev pub hop_load : Road → Hop → ℕ
hop_load road h =
    road.stages * (2 * (unsigned_abs h.right_max + unsigned_abs h.left_max))
    + road.stages * (unsigned_abs h.right_cost * unsigned_abs h.right_max + unsigned_abs h.left_cost * unsigned_abs h.left_max)

-- an access road's amounts stand in a balance and in its pit's row
abbrev pub access_load : Road → ℕ → ℕ
access_load road q =
    road.stages * (2 * unsigned_abs (access road q).max)
    + road.stages * (unsigned_abs (access_unit_cost road q) * unsigned_abs (access road q).max)

abbrev pub pit_load : Road → ℕ → ℕ
pit_load road p = unsigned_abs (pit road p).capacity

-- the most that leaves a section by hauls in one stage
abbrev pub haul_cap : Road → ℕ → ℕ
haul_cap road i = unsigned_abs (hop road i).right_max + unsigned_abs (hop road (i - 1)).left_max

-- the rows of a block at section i: transit, stop and order, and its removal where there is a second stage
abbrev pub block_load : Road → ℕ → ℕ
block_load road k =
    let i = (block road k).section in
    (road.stages * (unsigned_abs (section road i).cut_max + haul_cap road i) + (road.stages - 1) * haul_cap road i)
    + ((road.stages - 1) * (3 * earth_cap (section road i)) + (2 * (road.stages - 2)
    + (if nat_le 2 road.stages then unsigned_abs (block road k).cost else 0)))

-- all of them
abbrev pub load_of : Road → ℕ
load_of road =
    (total_to (λ i. section_load road (section road i)) (section_count road)
    + (total_to (joint_load road) (segment_count road - 1) + total_to (segment_load road) (segment_count road)))
    + ((total_to (fixed_load road) (fixed_count road) + total_to (λ h. hop_load road (hop road h)) (hop_count road))
    + (total_to (access_load road) (access_count road)
    + (total_to (pit_load road) (pit_count road) + total_to (block_load road) (block_count road))))
