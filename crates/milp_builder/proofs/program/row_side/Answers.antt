use Rattle.std.proofs.Common.{arith, ap, sym, ◌∙◌}
use Rattle.form_rows.specs.FormRows.{asked}
use Rattle.road_types.specs.RoadPrograms.{lines_in}
use Rattle.milp_builder.proofs.ProgramLemmas.{form_along, form_behind}
use Rattle.milp_builder.proofs.program.row_side.Goals as goal

pub returns-then-row-along : goal.returns-then-row-along
returns-then-row-along c =
    let road = c.args.road.now in
    c.section_side.ensures ∙ ap asked (sym (form_along road (lines_in road c.args.ranges.now.heights) c.args.row (omega (arith, c.if-row-along.true, c.requires.along))))

pub returns-else-row-along : goal.returns-else-row-along
returns-else-row-along c =
    let road = c.args.road.now in
    c.haul_side.ensures ∙ ap asked (sym (form_behind road (lines_in road c.args.ranges.now.heights) c.args.row (omega (arith, c.if-row-along.false, c.requires.along))))
