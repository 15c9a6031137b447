-- A road whose record is well formed, fact by fact: ranges, counts, order along the road, and each section, hop, fixed point,
-- pit, access road and block. The road's record has no fault exactly where it is well formed.
use Rattle.std.specs.Prelude.{◌≡◌, ℕ, ◌+◌, ◌-◌, ◌≤◌, true, List, length, ℤ, pos, neg_ℤ, ◌≤ℤ◌, ◌<ℤ◌}
use Rattle.road_types.specs.Numbered.{numbered, IsNumber}
use Rattle.road_types.specs.Heights.{segment_start, segment_end}
use Rattle.road_types.specs.Road.{section, hop, fixed_point, pit, access, block, section_count, segment_count, hop_count, fixed_count, pit_count, access_count, block_count}
use Rattle.road_types.specs.RecordFaults.{is_name_byte}
use Rattle.road_types.specs.declared.road.Road.{Road}
use Rattle.road_types.specs.declared.road.Section.{Section}
use Rattle.road_types.specs.declared.road.Slab.{Slab}
use Rattle.road_types.specs.declared.road.Hop.{Hop}
use Rattle.road_types.specs.declared.road.Fixed.{Fixed}
use Rattle.road_types.specs.declared.road.Pit.{Pit}
use Rattle.road_types.specs.declared.road.Access.{Access}
use Rattle.road_types.specs.declared.road.Block.{Block}

-- low <= x <= high
pub record IsBetween (low high x : ℤ) : Type 0 where
  pub at_least : low ≤ℤ x
  pub at_most : x ≤ℤ high

abbrev pub IsStation : ℤ → Type 0
IsStation x = IsBetween (pos 0) (pos 100000) x

abbrev pub IsHeight : ℤ → Type 0
IsHeight x = IsBetween (neg_ℤ (pos 10000000)) (pos 10000000) x

abbrev pub IsGrade : ℤ → Type 0
IsGrade x = IsBetween (neg_ℤ (pos 1000000)) (pos 1000000) x

abbrev pub IsCurve : ℤ → Type 0
IsCurve x = IsBetween (pos 0) (pos 1000000) x

abbrev pub IsCost : ℤ → Type 0
IsCost x = IsBetween (pos 0) (pos 1000000) x

abbrev pub IsCap : ℤ → Type 0
IsCap x = IsBetween (pos 0) (pos 100000000000000) x

-- 1 to 32 letters, digits, `_` and `-` of ASCII
pub record IsName (name : List ℕ) : Type 0 where
  pub some : 1 ≤ length name
  pub few : length name ≤ 32
  pub each : (k : ℕ) → IsNumber k (length name) → is_name_byte (numbered 0 name k) ≡ true

-- a slab of at least 1 mm and 1 m²
pub record IsSolidSlab (s : Slab) : Type 0 where
  pub thick : IsBetween (pos 1) (pos 10000000) s.thick
  pub area : IsBetween (pos 1) (pos 10000000) s.area

-- one to four slabs, each solid
pub record IsSlabTable (slabs : List Slab) : Type 0 where
  pub some : 1 ≤ length slabs
  pub few : length slabs ≤ 4
  pub solid : (k : ℕ) (other : Slab) → IsNumber k (length slabs) → IsSolidSlab (numbered other slabs k)

-- a station between the first and the last knot
pub record IsOnKnots (road : Road) (station : ℤ) : Type 0 where
  pub after_first : segment_start road.knots 1 ≤ℤ station
  pub before_last : station ≤ℤ segment_end road.knots (segment_count road)

pub record IsWellFormedSection (road : Road) (s : Section) : Type 0 where
  pub station : IsStation s.station
  pub on_knots : IsOnKnots road s.station
  pub height_of_ground : IsHeight s.ground
  pub cut : IsSlabTable s.cut
  pub fill : IsSlabTable s.fill
  pub cut_cost : IsCost s.cut_cost
  pub fill_cost : IsCost s.fill_cost
  pub cut_max : IsCap s.cut_max
  pub fill_max : IsCap s.fill_max

pub record IsWellFormedHop (h : Hop) : Type 0 where
  pub right_cost : IsCost h.right_cost
  pub right_max : IsCap h.right_max
  pub left_cost : IsCost h.left_cost
  pub left_max : IsCap h.left_max

pub record IsWellFormedFixed (road : Road) (f : Fixed) : Type 0 where
  pub station : IsStation f.station
  pub on_knots : IsOnKnots road f.station
  pub low : IsHeight f.low
  pub high : IsHeight f.high
  pub ordered : f.low ≤ℤ f.high

pub record IsWellFormedAccess (road : Road) (a : Access) : Type 0 where
  pub pit : IsNumber a.pit (pit_count road)
  pub section : IsNumber a.section (section_count road)
  pub cost : IsCost a.cost
  pub max : IsCap a.max

pub record IsWellFormedPit (p : Pit) : Type 0 where
  pub name : IsName p.name
  pub capacity : IsCap p.capacity
  pub cost : IsCost p.cost

pub record IsWellFormedBlock (road : Road) (b : Block) : Type 0 where
  pub section : IsNumber b.section (section_count road)
  pub cost : IsCost b.cost

-- as many stages, knots and entries as there may be, and a hop between each two neighbouring sections
pub record IsCounted (road : Road) : Type 0 where
  pub stages_from : 1 ≤ road.stages
  pub stages_to : road.stages ≤ 4
  pub knots_from : 2 ≤ length road.knots
  pub knots_to : length road.knots ≤ 9
  pub sections_from : 1 ≤ section_count road
  pub sections_to : section_count road ≤ 60
  pub hops_count : hop_count road ≡ section_count road - 1
  pub fixed_to : fixed_count road ≤ 20
  pub pits_to : pit_count road ≤ 8
  pub roads_to : access_count road ≤ 16
  pub blocks_to : block_count road ≤ 4

-- a road whose record has no fault
pub record IsWellFormed (road : Road) : Type 0 where
  pub counted : IsCounted road
  pub step : IsBetween (pos 1) (pos 1000) road.step
  pub low : IsHeight road.low
  pub high : IsHeight road.high
  pub low_high : road.low ≤ℤ road.high
  pub grade_low : IsGrade road.grade.0
  pub grade_high : IsGrade road.grade.1
  pub grade_ordered : road.grade.0 ≤ℤ road.grade.1
  pub curve : IsCurve road.curve
  pub knots_in_range : (k : ℕ) → IsNumber k (length road.knots) → IsStation (numbered (pos 0) road.knots k)
  pub knots_rise : (g : ℕ) → IsNumber g (segment_count road) → segment_start road.knots g <ℤ segment_end road.knots g
  pub sections : (i : ℕ) → IsNumber i (section_count road) → IsWellFormedSection road (section road i)
  pub stations_rise : (i : ℕ) → IsNumber i (hop_count road) → (section road i).station <ℤ (section road (i + 1)).station
  pub hops : (h : ℕ) → IsNumber h (hop_count road) → IsWellFormedHop (hop road h)
  pub fixed : (f : ℕ) → IsNumber f (fixed_count road) → IsWellFormedFixed road (fixed_point road f)
  pub pits : (p : ℕ) → IsNumber p (pit_count road) → IsWellFormedPit (pit road p)
  pub pits_differ : (p q : ℕ) → IsNumber p (pit_count road) → IsNumber q (pit_count road) → (pit road p).name ≡ (pit road q).name → p ≡ q
  pub roads : (q : ℕ) → IsNumber q (access_count road) → IsWellFormedAccess road (access road q)
  pub blocks : (k : ℕ) → IsNumber k (block_count road) → IsWellFormedBlock road (block road k)
  pub blocks_differ : (k l : ℕ) → IsNumber k (block_count road) → IsNumber l (block_count road) → (block road k).section ≡ (block road l).section → k ≡ l
  pub nodes : IsBetween (pos 1) (pos 4999) road.nodes
  pub pivots : IsBetween (pos 1) (pos 20000) road.pivots
