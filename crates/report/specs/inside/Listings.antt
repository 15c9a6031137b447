-- What is listed by number in the tables of a report, each kind with the lines of an entry and the number of entries; and the rows of
-- the costs by their numbers.
use Rattle.std.specs.Prelude.{ℕ, List, [], ◌∷◌, codes, ℤ, ◌+ℤ◌}
use Rattle.algebra.specs.Lists.{flat_to}
use Rattle.road_types.specs.Road.{section_count, hop_count, access_count, block_count}
use Rattle.road_types.specs.declared.road.Road.{Road}
use Rattle.plan_rules.specs.Costs.{cut_total, fill_total, haul_total, access_total, removal_total}
use Rattle.plan_rules.specs.declared.plan.Plan.{Plan}
use Rattle.report.specs.Lines.{Line}
use Rattle.report.specs.Reports.{profile_line, earthwork_lines, right_lines, left_lines, access_lines, block_line, cost_line}
use Rattle.report.specs.declared.entries.Listing.{Listing}
use Rattle.report.specs.declared.entries.Listing.TheVariants.{Profile, Earthwork, Right, Left, Access, Blocks}

-- the lines of each entry in stage t; what has no stages takes no notice of it
unfoldable pub entry_lines : Road → Plan → Listing → ℕ → ℕ → List Line
entry_lines road plan Profile t = λ i. profile_line road plan i ∷ []
entry_lines road plan Earthwork t = earthwork_lines plan t
entry_lines road plan Right t = right_lines plan t
entry_lines road plan Left t = left_lines plan t
entry_lines road plan Access t = access_lines road plan t
entry_lines road plan Blocks t = λ k. block_line road plan k ∷ []

-- how many entries there are
abbrev pub listing_count : Road → Listing → ℕ
listing_count road Profile = section_count road
listing_count road Earthwork = section_count road
listing_count road Right = hop_count road
listing_count road Left = hop_count road
listing_count road Access = access_count road
listing_count road Blocks = block_count road

-- the lines of all entries in stage t
unfoldable pub listing_lines : Road → Plan → Listing → ℕ → List Line
listing_lines road plan listing t = flat_to (entry_lines road plan listing t) (listing_count road listing)

-- five costs and their sum
abbrev pub cost_lines : Plan → ℤ → ℤ → ℤ → ℤ → ℤ → List Line
cost_lines plan cut fill haul access removal =
    cost_line plan (codes "cut") cut
    ∷ cost_line plan (codes "fill") fill
    ∷ cost_line plan (codes "haul") haul
    ∷ cost_line plan (codes "access") access
    ∷ cost_line plan (codes "removal") removal
    ∷ cost_line plan (codes "total") ((((cut +ℤ fill) +ℤ haul) +ℤ access) +ℤ removal)
    ∷ []

-- the costs of a plan and their sum
abbrev pub all_cost_lines : Road → Plan → List Line
all_cost_lines road plan = cost_lines plan (cut_total road plan) (fill_total road plan) (haul_total road plan) (access_total road plan) (removal_total road plan)
