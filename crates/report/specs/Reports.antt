-- The report of what was found for a road: its sizes, cost, bound and gap, the numbers of open leaves by cause, and where a plan was
-- found its tables: profile, earthwork, haul, blocks, costs.
use Rattle.std.specs.Prelude.{ℕ, ◌+◌, nat_le, ◌&&◌, Bool, if◌then◌else◌, List, [], ◌∷◌, ◌++◌, codes, Option, Some, None, ℤ, pos, ◌*ℤ◌}
use Rattle.std.specs.Fmt.{decimal, signed_decimal}
use Rattle.std.specs.Ordering.{int_eq}
use Rattle.algebra.specs.Lists.{flat_to}
use Rattle.numbers.specs.Fractions.{Fraction, fraction_text}
use Rattle.road_types.specs.Road.{section, access, pit, block, section_count, hop_count, access_count, block_count}
use Rattle.road_types.specs.Volumes.{net_volume}
use Rattle.road_types.specs.declared.road.Road.{Road}
use Rattle.road_types.specs.declared.road.PitKind.{PitKind}
use Rattle.road_types.specs.declared.road.PitKind.TheVariants.{Borrow, Waste}
use Rattle.plan_rules.specs.Plans.{amount, opening}
use Rattle.plan_rules.specs.Rules.{height_at, offset_of, IsAdmissible}
use Rattle.plan_rules.specs.Fits.{Fits}
use Rattle.plan_rules.specs.Costs.{cut_total, fill_total, haul_total, access_total, removal_total, cost_of}
use Rattle.plan_rules.specs.declared.plan.Plan.{Plan}
use Rattle.report.specs.declared.findings.Findings.{Findings}
use Rattle.report.specs.declared.findings.Findings.TheVariants.{NoPlan, Bounded, Planned}
use Rattle.report.specs.declared.findings.OpenLeaves.{OpenLeaves}
use Rattle.report.specs.Lines.{Cell, text, ratio, gap, Line, alone, row, AreLines}

-- a number of a plan, which stands over the plan's denominator
abbrev pub over_den : Plan → ℤ → Cell
over_den plan num = ratio [] num plan.den

-- a line that is this text
abbrev pub said_line : List ℕ → Line
said_line t = alone (text t)

-- ---- the rows of each table

-- station in steps and in metres, ground, height and offset in mm, net volume in litres
abbrev pub profile_line : Road → Plan → ℕ → Line
profile_line road plan i = row (
    text (decimal i)
    ∷ text (signed_decimal (section road i).station)
    ∷ text (signed_decimal ((section road i).station *ℤ road.step))
    ∷ text (signed_decimal (section road i).ground)
    ∷ over_den plan (height_at road plan (section road i).station)
    ∷ over_den plan (offset_of road plan i)
    ∷ over_den plan (net_volume (section road i).cut (section road i).fill (offset_of road plan i) plan.den)
    ∷ [])

abbrev pub is_nothing : ℤ → Bool
is_nothing litres = int_eq litres (pos 0)

-- a section where something is cut or filled in stage t
abbrev pub work_lines : Plan → ℕ → ℕ → ℤ → ℤ → List Line
work_lines plan t i cut fill =
    if is_nothing cut && is_nothing fill
    then []
    else row (text (decimal t) ∷ text (decimal i) ∷ over_den plan cut ∷ over_den plan fill ∷ []) ∷ []

abbrev pub earthwork_lines : Plan → ℕ → ℕ → List Line
earthwork_lines plan t i = work_lines plan t i (amount plan.cut t i) (amount plan.fill t i)

-- the ends of a haul

abbrev pub at_section : ℕ → List ℕ
at_section i = codes "section " ++ decimal i

abbrev pub at_pit : Road → ℕ → List ℕ
at_pit road p = codes "pit " ++ (pit road p).name

-- a haul of something in stage t, from one end to the other
abbrev pub haul_lines : Plan → ℕ → List ℕ → List ℕ → ℤ → List Line
haul_lines plan t from to litres =
    if is_nothing litres then [] else row (text (decimal t) ∷ text from ∷ text to ∷ over_den plan litres ∷ []) ∷ []

-- hop h joins section h and section h + 1

abbrev pub right_lines : Plan → ℕ → ℕ → List Line
right_lines plan t h = haul_lines plan t (at_section h) (at_section (h + 1)) (amount plan.right t h)

abbrev pub left_lines : Plan → ℕ → ℕ → List Line
left_lines plan t h = haul_lines plan t (at_section (h + 1)) (at_section h) (amount plan.left t h)

-- earth comes from a borrow pit and goes to a waste pit
abbrev pub pit_lines : Plan → PitKind → ℕ → List ℕ → List ℕ → ℤ → List Line
pit_lines plan Borrow t at_the_pit at_the_section litres = haul_lines plan t at_the_pit at_the_section litres
pit_lines plan Waste t at_the_pit at_the_section litres = haul_lines plan t at_the_section at_the_pit litres

abbrev pub access_lines : Road → Plan → ℕ → ℕ → List Line
access_lines road plan t q =
    pit_lines plan (pit road (access road q).pit).kind t (at_pit road (access road q).pit) (at_section (access road q).section) (amount plan.roads t q)

-- the stage from which a block is open
abbrev pub opening_text : Road → ℕ → List ℕ
opening_text road stage = if nat_le stage road.stages then decimal stage else codes "never"

abbrev pub block_line : Road → Plan → ℕ → Line
block_line road plan k = row (text (decimal k) ∷ text (decimal (block road k).section) ∷ text (opening_text road (opening plan k)) ∷ [])

abbrev pub cost_line : Plan → List ℕ → ℤ → Line
cost_line plan item cost = row (text item ∷ over_den plan cost ∷ [])

-- ---- the tables, each with its name and its header

unfoldable pub profile_table : Road → Plan → List Line
profile_table road plan =
    said_line (codes "profile")
    ∷ said_line (codes "section,station,metres,ground,height,offset,net")
    ∷ flat_to (λ i. profile_line road plan i ∷ []) (section_count road)

unfoldable pub earthwork_of_stage : Road → Plan → ℕ → List Line
earthwork_of_stage road plan t = flat_to (earthwork_lines plan t) (section_count road)

unfoldable pub earthwork_table : Road → Plan → List Line
earthwork_table road plan =
    said_line (codes "earthwork")
    ∷ said_line (codes "stage,section,cut,fill")
    ∷ flat_to (earthwork_of_stage road plan) road.stages

-- hauls to the right, then to the left, then over access roads
unfoldable pub hauls_of_stage : Road → Plan → ℕ → List Line
hauls_of_stage road plan t =
    flat_to (right_lines plan t) (hop_count road)
    ++ (flat_to (left_lines plan t) (hop_count road)
    ++ flat_to (access_lines road plan t) (access_count road))

unfoldable pub haul_table : Road → Plan → List Line
haul_table road plan =
    said_line (codes "haul")
    ∷ said_line (codes "stage,from,to,litres")
    ∷ flat_to (hauls_of_stage road plan) road.stages

unfoldable pub blocks_table : Road → Plan → List Line
blocks_table road plan =
    said_line (codes "blocks")
    ∷ said_line (codes "block,section,stage")
    ∷ flat_to (λ k. block_line road plan k ∷ []) (block_count road)

unfoldable pub costs_table : Road → Plan → List Line
costs_table road plan =
    said_line (codes "costs")
    ∷ said_line (codes "item,cost")
    ∷ cost_line plan (codes "cut") (cut_total road plan)
    ∷ cost_line plan (codes "fill") (fill_total road plan)
    ∷ cost_line plan (codes "haul") (haul_total road plan)
    ∷ cost_line plan (codes "access") (access_total road plan)
    ∷ cost_line plan (codes "removal") (removal_total road plan)
    ∷ cost_line plan (codes "total") (cost_of road plan)
    ∷ []

unfoldable pub plan_tables : Road → Plan → List Line
plan_tables road plan =
    profile_table road plan ++ (earthwork_table road plan ++ (haul_table road plan ++ (blocks_table road plan ++ costs_table road plan)))

-- ---- the lines above the tables

unfoldable pub sizes_text : Road → List ℕ
sizes_text road =
    codes "road sections " ++ (decimal (section_count road) ++ (codes " stages " ++ (decimal road.stages ++ (codes " step " ++ signed_decimal road.step))))

abbrev pub bound_text : Fraction → List ℕ
bound_text bound = codes "bound " ++ fraction_text bound

unfoldable pub leaves_text : OpenLeaves → List ℕ
leaves_text leaves =
    codes "open nodes " ++ (decimal leaves.nodes ++ (codes " pivots " ++ (decimal leaves.pivots ++ (codes " width " ++ decimal leaves.width))))

-- cost and gap beside a bound
unfoldable pub bounded_lines : Road → Option Plan → Fraction → List Line
bounded_lines road None bound = said_line (codes "cost none") ∷ said_line (bound_text bound) ∷ said_line (codes "gap open") ∷ []
bounded_lines road (Some plan) bound =
    alone (ratio (codes "cost ") (cost_of road plan) plan.den)
    ∷ said_line (bound_text bound)
    ∷ alone (gap (cost_of road plan) plan.den bound)
    ∷ []

-- where no bound stands no plan is admissible
unfoldable pub found_lines : Road → Option Plan → Option Fraction → List Line
found_lines road plan None = said_line (codes "no plan") ∷ []
found_lines road plan (Some bound) = bounded_lines road plan bound

unfoldable pub found_tables : Road → Option Plan → List Line
found_tables road None = []
found_tables road (Some plan) = plan_tables road plan

-- the report of a plan, if one was found, a bound of all costs, if one stands, and the open leaves
unfoldable pub report_lines : Road → Option Plan → Option Fraction → OpenLeaves → List Line
report_lines road plan bound leaves =
    (said_line (sizes_text road) ∷ []) ++ (found_lines road plan bound ++ ((said_line (leaves_text leaves) ∷ []) ++ found_tables road plan))

-- the bytes are that report
abbrev pub IsReport : Road → Option Plan → Option Fraction → OpenLeaves → List ℕ → Type 0
IsReport road plan bound leaves bytes = AreLines (report_lines road plan bound leaves) bytes

-- ---- what was found

abbrev pub plan_found : Findings → Option Plan
plan_found NoPlan = None
plan_found (Bounded bound) = None
plan_found (Planned plan bound) = Some plan.now

abbrev pub bound_found : Findings → Option Fraction
bound_found NoPlan = None
bound_found (Bounded bound) = Some bound
bound_found (Planned plan bound) = Some bound

-- a plan that was found is admissible and of a moderate size
abbrev pub IsReportable : Road → Option Plan → Type 0
IsReportable road None = Unit {0}
IsReportable road (Some plan) = Fits road plan × IsAdmissible road plan
