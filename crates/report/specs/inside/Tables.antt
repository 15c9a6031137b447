-- The tables of a report and of a mass diagram, each with its name, its header and its records. The records come in parts: one part for
-- each stage, or one for all of them.
use Rattle.std.specs.Prelude.{ℕ, List, [], ◌∷◌, codes}
use Rattle.algebra.specs.Lists.{flat_to}
use Rattle.road_types.specs.Road.{section_count, block_count}
use Rattle.road_types.specs.declared.road.Road.{Road}
use Rattle.plan_rules.specs.declared.plan.Plan.{Plan}
use Rattle.report.specs.Lines.{Line}
use Rattle.report.specs.Mass.{mass_of_stage, zones_of_stage, moment_line}
use Rattle.report.specs.Reports.{said_line, profile_line, block_line, earthwork_of_stage, hauls_of_stage}
use Rattle.report.specs.inside.Listings.{all_cost_lines}
use Rattle.report.specs.declared.tables.Table.{Table}
use Rattle.report.specs.declared.tables.Table.TheVariants.{Profile, Earthwork, Haul, Blocks, Costs, Mass, Zones, Moment}

abbrev pub table_name : Table → List ℕ
table_name Profile = codes "profile"
table_name Earthwork = codes "earthwork"
table_name Haul = codes "haul"
table_name Blocks = codes "blocks"
table_name Costs = codes "costs"
table_name Mass = codes "mass"
table_name Zones = codes "zones"
table_name Moment = codes "moment"

abbrev pub table_header : Table → List ℕ
table_header Profile = codes "section,station,metres,ground,height,offset,net"
table_header Earthwork = codes "stage,section,cut,fill"
table_header Haul = codes "stage,from,to,litres"
table_header Blocks = codes "block,section,stage"
table_header Costs = codes "item,cost"
table_header Mass = codes "stage,hop,from,to,net"
table_header Zones = codes "stage,from,to,direction,peak"
table_header Moment = codes "stage,litremetres"

-- how many parts there are
abbrev pub part_count : Road → Table → ℕ
part_count road Profile = 1
part_count road Earthwork = road.stages
part_count road Haul = road.stages
part_count road Blocks = 1
part_count road Costs = 1
part_count road Mass = road.stages
part_count road Zones = road.stages
part_count road Moment = road.stages

-- the records of part t, which is stage t where there is one part for each stage
unfoldable pub part_lines : Road → Plan → Table → ℕ → List Line
part_lines road plan Profile t = flat_to (λ i. profile_line road plan i ∷ []) (section_count road)
part_lines road plan Earthwork t = earthwork_of_stage road plan t
part_lines road plan Haul t = hauls_of_stage road plan t
part_lines road plan Blocks t = flat_to (λ k. block_line road plan k ∷ []) (block_count road)
part_lines road plan Costs t = all_cost_lines road plan
part_lines road plan Mass t = mass_of_stage road plan t
part_lines road plan Zones t = zones_of_stage road plan t
part_lines road plan Moment t = moment_line road plan t ∷ []

unfoldable pub table_lines : Road → Plan → Table → List Line
table_lines road plan table = said_line (table_name table) ∷ said_line (table_header table) ∷ flat_to (part_lines road plan table) (part_count road table)
