-- The mass diagram of a plan: in each stage the ordinate over each hop, the zones of one direction and the haul moment, and its tables.
--     ordinate plan t h      what is hauled over hop h to the right less what is hauled to the left
--     surplus road plan t i      what section i gives in stage t; the ordinate is the sum over the sections before the hop
--     Zone, IsZone      neighbouring hops that are hauled over in one direction, as many as there are
--     zones_of ordinates count, AreZones      the zones of a stage: all of them, and each hop with an ordinate in exactly one
--     moment road plan t      litres times metres, over all hops and both directions
--     mass_lines road plan bound      what is printed
-- Amounts are in litres over the plan's denominator.
use Rattle.std.specs.Prelude.{◌≡◌, ◌≢◌, ◌⊎◌, ℕ, zero, suc, ◌+◌, ◌-◌, ◌≤◌, ◌<◌, max, Bool, true, false, ◌&&◌, ◌||◌, if◌then◌else◌, IsTrue, Option, Some, None, List, [], ◌∷◌, ◌++◌, map, codes, ℤ, pos, ◌+ℤ◌, ◌-ℤ◌, ◌*ℤ◌, int_lt, unsigned_abs}
use Rattle.std.specs.Fmt.{decimal}
use Rattle.algebra.specs.Lists.{flat_to}
use Rattle.algebra.specs.Sums.{sum_to}
use Rattle.numbers.specs.Fractions.{Fraction}
use Rattle.road_types.specs.Numbered.{IsNumber}
use Rattle.road_types.specs.Road.{section, hop_count}
use Rattle.road_types.specs.declared.road.Road.{Road}
use Rattle.plan_rules.specs.Plans.{amount}
use Rattle.plan_rules.specs.Rules.{borrowed_in, wasted_out}
use Rattle.plan_rules.specs.declared.plan.Plan.{Plan}
use Rattle.report.specs.Lines.{Line, row, text}
use Rattle.report.specs.Reports.{said_line, over_den}
use Rattle.report.specs.declared.zones.Direction.{Direction}
use Rattle.report.specs.declared.zones.Direction.TheVariants.{ToRight, ToLeft}

-- ---- ordinates

abbrev pub ordinate : Plan → ℕ → ℕ → ℤ
ordinate plan t h = amount plan.right t h -ℤ amount plan.left t h

-- how many litres 1000 litres fill that are cut in section i: what is cut keeps its volume
abbrev pub bulk : Road → ℕ → ℤ
bulk road i = pos 1000

-- 1000 times what is cut, by its bulk, and borrowed in section i in stage t, less what is filled and wasted there
abbrev pub surplus : Road → Plan → ℕ → ℕ → ℤ
surplus road plan t i =
    ((bulk road i *ℤ amount plan.cut t i +ℤ pos 1000 *ℤ borrowed_in road plan t i) -ℤ pos 1000 *ℤ amount plan.fill t i) -ℤ pos 1000 *ℤ wasted_out road plan t i

-- ---- zones, for the ordinates of a stage by hop

-- the ordinate isn't 0 and has this direction
abbrev pub goes : Direction → ℤ → Bool
goes ToRight x = int_lt (pos 0) x
goes ToLeft x = int_lt x (pos 0)

-- hops first to last, with the greatest magnitude of their ordinates
pub record Zone : Type 0 where
  pub first : ℕ
  pub last : ℕ
  pub direction : Direction
  pub peak : ℕ

pub record IsInZone (zone : Zone) (h : ℕ) : Type 0 where
  pub from_first : zone.first ≤ h
  pub to_last : h ≤ zone.last

-- its hops have one direction, which neither the hop before nor the hop after it has; hops 0 and count + 1 aren't there, and carry nothing
pub record IsZone (ordinates : ℕ → ℤ) (count : ℕ) (zone : Zone) : Type 0 where
  pub from_one : 1 ≤ zone.first
  pub some : zone.first ≤ zone.last
  pub at_most : zone.last ≤ count
  pub one_way : (h : ℕ) → IsInZone zone h → IsTrue (goes zone.direction (ordinates h))
  pub before : ¬ IsTrue (goes zone.direction (ordinates (zone.first - 1)))
  pub after : ¬ IsTrue (goes zone.direction (ordinates (zone.last + 1)))
  pub greatest : (h : ℕ) → IsInZone zone h → unsigned_abs (ordinates h) ≤ zone.peak
  pub reached : (h : ℕ) × IsInZone zone h × (unsigned_abs (ordinates h) ≡ zone.peak)

-- two neighbouring ordinates have one direction
abbrev pub same_way : ℤ → ℤ → Bool
same_way x y = (goes ToRight x && goes ToRight y) || (goes ToLeft x && goes ToLeft y)

-- the first hop of those of one direction that end with hop h, and the greatest magnitude of their ordinates
abbrev pub first_of : (ℕ → ℤ) → ℕ → ℕ
first_of ordinates zero = zero
first_of ordinates (suc h) = if same_way (ordinates h) (ordinates (suc h)) then first_of ordinates h else suc h

abbrev pub peak_of : (ℕ → ℤ) → ℕ → ℕ
peak_of ordinates zero = zero
peak_of ordinates (suc h) =
    if same_way (ordinates h) (ordinates (suc h)) then max (peak_of ordinates h) (unsigned_abs (ordinates (suc h))) else unsigned_abs (ordinates (suc h))

abbrev pub direction_of : ℤ → Option Direction
direction_of x = if goes ToRight x then Some ToRight else if goes ToLeft x then Some ToLeft else None

abbrev pub zone_in : Option Direction → ℕ → ℕ → ℕ → List Zone
zone_in None first last peak = []
zone_in (Some direction) first last peak = record { first = first; last = last; direction = direction; peak = peak } ∷ []

-- the zone that ends with hop h, if one does
abbrev pub zones_at : (ℕ → ℤ) → ℕ → List Zone
zones_at ordinates h =
    if same_way (ordinates h) (ordinates (h + 1)) then [] else zone_in (direction_of (ordinates h)) (first_of ordinates h) h (peak_of ordinates h)

-- the zones that end with hops 1 to count
abbrev pub zones_of : (ℕ → ℤ) → ℕ → List Zone
zones_of ordinates count = flat_to (zones_at ordinates) count

-- the zone is one of these
abbrev pub Lists : List Zone → Zone → Type 0
Lists [] zone = ⊥
Lists (one ∷ zones) zone = (one ≡ zone) ⊎ Lists zones zone

-- each ends before those behind it begin
abbrev pub AreInOrder : List Zone → Type 0
AreInOrder [] = Unit {0}
AreInOrder (zone ∷ zones) = ((other : Zone) → Lists zones other → zone.last < other.first) × AreInOrder zones

-- the zones of hops 1 to count: all of them, in order, and each hop with an ordinate in exactly one
pub record AreZones (ordinates : ℕ → ℤ) (count : ℕ) (zones : List Zone) : Type 0 where
  pub each : (zone : Zone) → Lists zones zone → IsZone ordinates count zone
  pub all : (zone : Zone) → IsZone ordinates count zone → Lists zones zone
  pub in_order : AreInOrder zones
  pub covered : (h : ℕ) → IsNumber h count → ordinates h ≢ pos 0 → (zone : Zone) × IsZone ordinates count zone × IsInZone zone h
  pub once : (h : ℕ) (one other : Zone) → IsZone ordinates count one → IsZone ordinates count other → IsInZone one h → IsInZone other h → one ≡ other

-- ---- the haul moment

-- litres over hop h in stage t, in both directions, times the metres between its sections
abbrev pub hop_moment : Road → Plan → ℕ → ℕ → ℤ
hop_moment road plan t h = (amount plan.right t h +ℤ amount plan.left t h) *ℤ (road.step *ℤ ((section road (h + 1)).station -ℤ (section road h).station))

abbrev pub moment : Road → Plan → ℕ → ℤ
moment road plan t = sum_to (hop_moment road plan t) (hop_count road)

-- ---- the rows of each table

abbrev pub direction_text : Direction → List ℕ
direction_text ToRight = codes "right"
direction_text ToLeft = codes "left"

abbrev pub mass_line : Plan → ℕ → ℕ → Line
mass_line plan t h =
    row (text (decimal t) ∷ text (decimal h) ∷ text (decimal h) ∷ text (decimal (h + 1)) ∷ over_den plan (ordinate plan t h) ∷ [])

-- from the section where its first hop begins to the one where its last hop ends
abbrev pub zone_line : Plan → ℕ → Zone → Line
zone_line plan t zone =
    row (text (decimal t) ∷ text (decimal zone.first) ∷ text (decimal (zone.last + 1)) ∷ text (direction_text zone.direction) ∷ over_den plan (pos zone.peak) ∷ [])

abbrev pub moment_line : Road → Plan → ℕ → Line
moment_line road plan t = row (text (decimal t) ∷ over_den plan (moment road plan t) ∷ [])

-- ---- the tables, each with its name and its header

unfoldable pub mass_of_stage : Road → Plan → ℕ → List Line
mass_of_stage road plan t = flat_to (λ h. mass_line plan t h ∷ []) (hop_count road)

unfoldable pub mass_table : Road → Plan → List Line
mass_table road plan = said_line (codes "mass") ∷ said_line (codes "stage,hop,from,to,net") ∷ flat_to (mass_of_stage road plan) road.stages

unfoldable pub zones_of_stage : Road → Plan → ℕ → List Line
zones_of_stage road plan t = map (zone_line plan t) (zones_of (ordinate plan t) (hop_count road))

unfoldable pub zones_table : Road → Plan → List Line
zones_table road plan = said_line (codes "zones") ∷ said_line (codes "stage,from,to,direction,peak") ∷ flat_to (zones_of_stage road plan) road.stages

unfoldable pub moment_table : Road → Plan → List Line
moment_table road plan = said_line (codes "moment") ∷ said_line (codes "stage,litremetres") ∷ flat_to (λ t. moment_line road plan t ∷ []) road.stages

unfoldable pub mass_tables : Road → Plan → List Line
mass_tables road plan = mass_table road plan ++ (zones_table road plan ++ moment_table road plan)

-- the tables of a plan, if one stands beside a bound; where no bound stands no plan is admissible
unfoldable pub mass_lines : Road → Option Plan → Option Fraction → List Line
mass_lines road plan None = said_line (codes "no plan") ∷ []
mass_lines road None (Some bound) = said_line (codes "cost none") ∷ []
mass_lines road (Some plan) (Some bound) = mass_tables road plan
