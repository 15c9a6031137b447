-- The tables of a report and of a mass diagram, one behind the other.
use Rattle.std.proofs.Common.{◌≡◌, ℕ, ◌+◌, ◌<◌, List, [], ◌∷◌, ◌++◌, take, get_or, length, refl, ap}
use Rattle.std.specs.Prelude.{flat_map}
use Rattle.std.proofs.lemmas.List.{append-nil, take_more}
use Rattle.std.proofs.lemmas.List.Concat.{flat_map-append}
use Rattle.algebra.specs.Lists.{flat_to}
use Rattle.road_types.specs.declared.road.Road.{Road}
use Rattle.plan_rules.specs.Costs.{cost_of}
use Rattle.plan_rules.specs.declared.plan.Plan.{Plan}
use Rattle.report.specs.Lines.{Line, Adds}
use Rattle.report.specs.Mass.{moment_line, mass_table, zones_table, moment_table, mass_tables}
use Rattle.report.specs.Reports.{profile_table, earthwork_table, haul_table, blocks_table, costs_table, plan_tables}
use Rattle.report.specs.inside.Tables.{part_lines, table_lines}
use Rattle.report.specs.declared.tables.Table.{Table}
use Rattle.report.specs.declared.tables.Table.TheVariants.{Profile, Earthwork, Haul, Blocks, Costs, Mass, Zones, Moment}
use Rattle.report.proofs.LinesLemmas.{both_added}

-- the lines of one more table
pub one_more_table : (f : Table → List Line) (tables : List Table) (k : ℕ) (d : Table) (before between after : List ℕ) → k < length tables
    → Adds (flat_map f (take k tables)) before between → Adds (f (get_or tables k d)) between after → Adds (flat_map f (take (k + 1) tables)) before after
one_more_table f tables k d before between after l h e =
    rw (take_more tables k d l, flat_map-append f (take k tables) (get_or tables k d ∷ []), append-nil (f (get_or tables k d)))
    (both_added (flat_map f (take k tables)) (f (get_or tables k d)) before between after h e)

pub plan_tables_are : (road : Road) (plan : Plan) → flat_map (table_lines road plan) (Profile ∷ Earthwork ∷ Haul ∷ Blocks ∷ Costs ∷ []) ≡ plan_tables road plan
unfolding plan_tables profile_table earthwork_table haul_table blocks_table costs_table cost_of table_lines part_lines
plan_tables_are road plan = refl

pub mass_tables_are : (road : Road) (plan : Plan) → flat_map (table_lines road plan) (Mass ∷ Zones ∷ Moment ∷ []) ≡ mass_tables road plan
unfolding mass_tables mass_table zones_table moment_table table_lines part_lines
mass_tables_are road plan = ap (λ lines. mass_table road plan ++ (zones_table road plan ++ lines)) (append-nil (moment_table road plan))
