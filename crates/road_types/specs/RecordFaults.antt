-- The rules of a road's record, as tests: ranges of numbers and forms of names, order along the road, slab tables, lows and
-- highs, pits, places, counts and budgets; each with the fault that answers where it is broken, in the order of trial.
use Rattle.std.specs.Prelude.{ℕ, ◌-◌, nat_le, ◌==◌, Bool, true, not, ◌&&◌, ◌||◌, if◌then◌else◌, Option, Some, None, List, [], ◌∷◌, length, ℤ, pos, neg_ℤ, int_le, int_lt}
use Rattle.std.specs.List.{list_all}
use Rattle.std.specs.Str.{bytes_eq}
use Rattle.road_types.specs.Numbered.{numbered}
use Rattle.road_types.specs.declared.fault.Fault.{Fault}
use Rattle.road_types.specs.declared.fault.Fault.TheVariants.{F6, F7, F8, F9, F10, F11, F12, F13, F14, F15}
use Rattle.road_types.specs.declared.road.Road.{Road}
use Rattle.road_types.specs.declared.road.Section.{Section}
use Rattle.road_types.specs.declared.road.Slab.{Slab}
use Rattle.road_types.specs.declared.road.Hop.{Hop}
use Rattle.road_types.specs.declared.road.Fixed.{Fixed}
use Rattle.road_types.specs.declared.road.Pit.{Pit}
use Rattle.road_types.specs.declared.road.Access.{Access}
use Rattle.road_types.specs.declared.road.Block.{Block}

-- low <= x <= high
abbrev pub is_between : ℤ → ℤ → ℤ → Bool
is_between low high x = int_le low x && int_le x high

-- the ranges of numbers, each with both ends

abbrev pub is_station : ℤ → Bool
is_station x = is_between (pos 0) (pos 100000) x

abbrev pub is_height : ℤ → Bool
is_height x = is_between (neg_ℤ (pos 10000000)) (pos 10000000) x

abbrev pub is_grade : ℤ → Bool
is_grade x = is_between (neg_ℤ (pos 1000000)) (pos 1000000) x

abbrev pub is_curve : ℤ → Bool
is_curve x = is_between (pos 0) (pos 1000000) x

-- a thickness or an area
abbrev pub is_measure : ℤ → Bool
is_measure x = is_between (neg_ℤ (pos 10000000)) (pos 10000000) x

abbrev pub is_cost : ℤ → Bool
is_cost x = is_between (pos 0) (pos 1000000) x

-- a cap or a capacity
abbrev pub is_cap : ℤ → Bool
is_cap x = is_between (pos 0) (pos 100000000000000) x

abbrev pub is_step : ℤ → Bool
is_step x = is_between (pos 1) (pos 1000) x

abbrev pub is_stages : ℕ → Bool
is_stages n = nat_le 1 n && nat_le n 4

-- a letter or a digit of ASCII, `_` or `-`
abbrev pub is_name_byte : ℕ → Bool
is_name_byte b =
    (nat_le 48 b && nat_le b 57) || (nat_le 65 b && nat_le b 90) || (nat_le 97 b && nat_le b 122) || (b == 95) || (b == 45)

-- 1 to 32 such bytes
abbrev pub is_name : List ℕ → Bool
is_name name = nat_le 1 (length name) && nat_le (length name) 32 && list_all is_name_byte name

abbrev pub slab_in_range : Slab → Bool
slab_in_range s = is_measure s.thick && is_measure s.area

-- the section's costs and caps are within their ranges
abbrev pub prices_in_range : Section → Bool
prices_in_range s = is_cost s.cut_cost && is_cost s.fill_cost && is_cap s.cut_max && is_cap s.fill_max

abbrev pub section_in_range : Section → Bool
section_in_range s =
    is_station s.station && is_height s.ground && list_all slab_in_range s.cut && list_all slab_in_range s.fill
    && prices_in_range s

abbrev pub hop_in_range : Hop → Bool
hop_in_range h = is_cost h.right_cost && is_cap h.right_max && is_cost h.left_cost && is_cap h.left_max

abbrev pub fixed_in_range : Fixed → Bool
fixed_in_range f = is_station f.station && is_height f.low && is_height f.high

abbrev pub pit_in_range : Pit → Bool
pit_in_range p = is_name p.name && is_cap p.capacity && is_cost p.cost

abbrev pub access_in_range : Access → Bool
access_in_range a = is_cost a.cost && is_cap a.max

abbrev pub block_in_range : Block → Bool
block_in_range b = is_cost b.cost

-- both ends of the grade are within their range
abbrev pub grades_in_range : ℤ × ℤ → Bool
grades_in_range grade = is_grade grade.0 && is_grade grade.1

-- the limits of heights, grades and curves are within their ranges
abbrev pub limits_in_range : Road → Bool
limits_in_range road = is_height road.low && is_height road.high && grades_in_range road.grade && is_curve road.curve

-- so are step, stages and knots
abbrev pub scales_in_range : Road → Bool
scales_in_range road = is_step road.step && is_stages road.stages && list_all is_station road.knots

-- the numbers and names of all entries are within their ranges
abbrev pub lists_in_range : Road → Bool
lists_in_range road =
    list_all section_in_range road.sections && list_all hop_in_range road.hops && list_all fixed_in_range road.fixed
    && list_all pit_in_range road.pits && list_all access_in_range road.roads && list_all block_in_range road.blocks

-- every number is within its range, every name of its form
unfoldable pub is_in_range : Road → Bool
is_in_range road = scales_in_range road && limits_in_range road && lists_in_range road

-- the relation holds between each entry and the next
unfoldable pub all_neighbours : {A : Type 0} → (A → A → Bool) → List A → Bool
all_neighbours R [] = true
all_neighbours R (x ∷ []) = true
all_neighbours R (x ∷ y ∷ rest) = R x y && all_neighbours R (y ∷ rest)

-- the relation holds between each entry and each later one
unfoldable pub all_pairs : {A : Type 0} → (A → A → Bool) → List A → Bool
all_pairs R [] = true
all_pairs R (x ∷ rest) = list_all (R x) rest && all_pairs R rest

-- numbers that rise strictly
abbrev pub rises : List ℤ → Bool
rises xs = all_neighbours int_lt xs

abbrev pub comes_before : Section → Section → Bool
comes_before s t = int_lt s.station t.station

-- sections whose stations rise strictly
abbrev pub stations_rise : List Section → Bool
stations_rise sections = all_neighbours comes_before sections

-- the first and the last of some numbers, 0 of none

abbrev pub first_of : List ℤ → ℤ
first_of xs = numbered (pos 0) xs 1

abbrev pub last_of : List ℤ → ℤ
last_of xs = numbered (pos 0) xs (length xs)

-- a station between the first and the last knot, both included
abbrev pub is_on_knots : List ℤ → ℤ → Bool
is_on_knots knots x = is_between (first_of knots) (last_of knots) x

abbrev pub section_on_knots : List ℤ → Section → Bool
section_on_knots knots s = is_on_knots knots s.station

abbrev pub sections_on_knots : List ℤ → List Section → Bool
sections_on_knots knots sections = list_all (section_on_knots knots) sections

-- at least two knots, which rise strictly, and the sections between the first and the last
unfoldable pub knots_hold : Road → Bool
knots_hold road = nat_le 2 (length road.knots) && rises road.knots && sections_on_knots road.knots road.sections

-- a slab whose thickness and area are at least 1
abbrev pub is_solid : Slab → Bool
is_solid s = int_le (pos 1) s.thick && int_le (pos 1) s.area

-- at least one slab, and each of them solid
abbrev pub is_table : List Slab → Bool
is_table slabs = nat_le 1 (length slabs) && list_all is_solid slabs

abbrev pub has_tables : Section → Bool
has_tables s = is_table s.cut && is_table s.fill

abbrev pub low_holds : Fixed → Bool
low_holds f = int_le f.low f.high

-- no low is above its high
unfoldable pub lows_hold : Road → Bool
lows_hold road = int_le road.low road.high && int_le road.grade.0 road.grade.1 && list_all low_holds road.fixed

-- two pits with different names
abbrev pub differs_from : Pit → Pit → Bool
differs_from p q = not (bytes_eq p.name q.name)

-- no two pits have one name
abbrev pub names_differ : List Pit → Bool
names_differ pits = all_pairs differs_from pits

-- a number of one of `count` entries, from 1
abbrev pub is_number : ℕ → ℕ → Bool
is_number i count = nat_le 1 i && nat_le i count

-- the access road's pit is one of so many
abbrev pub has_pit : ℕ → Access → Bool
has_pit count a = is_number a.pit count

-- pit names differ, and each access road has a pit
unfoldable pub pits_hold : Road → Bool
pits_hold road = names_differ road.pits && list_all (has_pit (length road.pits)) road.roads

-- an access road, and a block, at one of so many sections

abbrev pub stands_at_section : ℕ → Access → Bool
stands_at_section count a = is_number a.section count

abbrev pub block_at_section : ℕ → Block → Bool
block_at_section count b = is_number b.section count

abbrev pub point_on_knots : List ℤ → Fixed → Bool
point_on_knots knots f = is_on_knots knots f.station

-- access roads and blocks stand at sections, fixed points between the first and the last knot
unfoldable pub places_hold : Road → Bool
places_hold road =
    list_all (stands_at_section (length road.sections)) road.roads
    && list_all (block_at_section (length road.sections)) road.blocks
    && list_all (point_on_knots road.knots) road.fixed

-- two blocks at different sections
abbrev pub stands_elsewhere : Block → Block → Bool
stands_elsewhere b c = not (b.section == c.section)

-- no two blocks stand at one section
abbrev pub blocks_differ : List Block → Bool
blocks_differ blocks = all_pairs stands_elsewhere blocks

-- no section has more than four slabs a side
abbrev pub has_few_slabs : Section → Bool
has_few_slabs s = nat_le (length s.cut) 4 && nat_le (length s.fill) 4

-- so many sections, knots and slabs as there may be, and one hop between each two neighbouring sections
abbrev pub stretch_counts_hold : Road → Bool
stretch_counts_hold road =
    nat_le 1 (length road.sections) && nat_le (length road.sections) 60 && nat_le (length road.knots) 9
    && list_all has_few_slabs road.sections && (length road.hops == length road.sections - 1)

-- every list has a number of entries within its limit
unfoldable pub counts_hold : Road → Bool
counts_hold road =
    stretch_counts_hold road && nat_le (length road.pits) 8 && nat_le (length road.roads) 16
    && nat_le (length road.fixed) 20 && nat_le (length road.blocks) 4

-- both budgets of a search are within their ranges
unfoldable pub budgets_hold : Road → Bool
budgets_hold road = is_between (pos 1) (pos 4999) road.nodes && is_between (pos 1) (pos 20000) road.pivots

-- the fault of the first rule that isn't kept
abbrev pub first_broken : List (Bool × Fault) → Option Fault
first_broken [] = None
first_broken (rule ∷ rest) = if rule.0 then first_broken rest else Some rule.1

-- the first fault of a road's record
unfoldable pub record_fault : Road → Option Fault
record_fault road =
    first_broken
    ((is_in_range road, F6)
    ∷ (stations_rise road.sections, F7)
    ∷ (knots_hold road, F8)
    ∷ (list_all has_tables road.sections, F9)
    ∷ (lows_hold road, F10)
    ∷ (pits_hold road, F11)
    ∷ (places_hold road, F12)
    ∷ (blocks_differ road.blocks, F13)
    ∷ (counts_hold road, F14)
    ∷ (budgets_hold road, F15)
    ∷ [])
