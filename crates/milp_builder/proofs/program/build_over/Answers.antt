use Rattle.std.proofs.Common.{List, map, ap, sym, ◌∙◌, subst}
use Rattle.std.specs.Prelude.{ℤ}
use Rattle.road_types.specs.Ranges.{AreHeightRanges}
use Rattle.road_types.specs.Columns.{bounds_of, unit_cost}
use Rattle.road_types.specs.RoadPrograms.{forms_of, lines_in}
use Rattle.milp_builder.proofs.BoxLaws.{height_ranges}
use Rattle.milp_builder.proofs.BoxLimits.{box_within_limits}
use Rattle.milp_builder.proofs.ProgramLemmas.{box_program_is, limits_of_same, kinds_are, same_count}
use Rattle.milp_builder.proofs.program.build_over.Goals as goal

pub box_rows-requires-clause-ranges : goal.box_rows-requires-clause-ranges
box_rows-requires-clause-ranges c = subst (λ (h : List (ℤ × ℤ)). AreHeightRanges c.args.road.now h) (sym c.requires.ranges) (height_ranges c.args.road.now c.args.range.now c.requires.fits)

pub sides_of-requires-clause-ranges : goal.sides_of-requires-clause-ranges
sides_of-requires-clause-ranges c = subst (λ (h : List (ℤ × ℤ)). AreHeightRanges c.args.road.now h) (sym c.requires.ranges) (height_ranges c.args.road.now c.args.range.now c.requires.fits)

pub rights_of-requires-clause-ranges : goal.rights_of-requires-clause-ranges
rights_of-requires-clause-ranges c = subst (λ (h : List (ℤ × ℤ)). AreHeightRanges c.args.road.now h) (sym c.requires.ranges) (height_ranges c.args.road.now c.args.range.now c.requires.fits)

pub column_bounds-requires-clause-kinds : goal.column_bounds-requires-clause-kinds
column_bounds-requires-clause-kinds c = kinds_are c.args.road.now c.args.kinds.now c.requires.kinds

pub column_costs-requires-clause-kinds : goal.column_costs-requires-clause-kinds
column_costs-requires-clause-kinds c = kinds_are c.args.road.now c.args.kinds.now c.requires.kinds

pub new-requires-clause-sides : goal.new-requires-clause-sides
new-requires-clause-sides c =
    let forms = forms_of c.args.road.now (lines_in c.args.road.now c.args.ranges.now.heights) in
    same_count c.args.road.now forms (λ form. form.side) c.in-Ok.sides.items c.in_ok-rows.rows.rows c.in-Ok.ensures c.in_ok-rows.ensures.rows

pub new-requires-clause-rights : goal.new-requires-clause-rights
new-requires-clause-rights c =
    let forms = forms_of c.args.road.now (lines_in c.args.road.now c.args.ranges.now.heights) in
    same_count c.args.road.now forms (λ form. form.right) c.in-Ok-rights_of.rights.items c.in_ok-rows.rows.rows c.in-Ok-rights_of.ensures c.in_ok-rows.ensures.rows

pub new-requires-clause-limits : goal.new-requires-clause-limits
new-requires-clause-limits c =
    let road = c.args.road.now in
    let box = c.args.range.now in
    let bounds = c.in_ok-bounds.ensures ∙ ap (map (bounds_of road box.heights box.opens)) c.requires.kinds in
    let costs = c.in_ok-costs.ensures ∙ ap (map (unit_cost road)) c.requires.kinds in
    let same = box_program_is road box c.args.ranges.now.heights c.in_ok-bounds.bounds.items c.in_ok-costs.costs.items c.in_ok-rows.rows.rows c.in-Ok.sides.items c.in-Ok-rights_of.rights.items c.requires.ranges bounds costs c.in_ok-rows.ensures.rows c.in-Ok.ensures c.in-Ok-rights_of.ensures in
    limits_of_same _ _ same (box_within_limits road c.requires.accepted box c.requires.fits)

pub returns : goal.returns
returns c =
    let road = c.args.road.now in
    let box = c.args.range.now in
    let bounds = c.in_ok-bounds.ensures ∙ ap (map (bounds_of road box.heights box.opens)) c.requires.kinds in
    let costs = c.in_ok-costs.ensures ∙ ap (map (unit_cost road)) c.requires.kinds in
    let same = box_program_is road box c.args.ranges.now.heights c.in_ok-bounds.bounds.items c.in_ok-costs.costs.items c.in_ok-rows.rows.rows c.in-Ok.sides.items c.in-Ok-rights_of.rights.items c.requires.ranges bounds costs c.in_ok-rows.ensures.rows c.in-Ok.ensures c.in-Ok-rights_of.ensures in
    c.new.ensures ∙ same
