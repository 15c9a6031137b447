use Rattle.std.proofs.Common.{arith, ap, ◌∙◌}
use Rattle.std.specs.Prelude.{ℤ}
use Rattle.road_types.specs.SectionForms.{section_forms}
use Rattle.road_types.specs.RoadPrograms.{lines_in}
use Rattle.road_types.proofs.FormCounts.{length-section_forms}
use Rattle.term_store.specs.HeldRows.{HeldRows}
use Rattle.term_store.specs.declared.term.Term.{Term}
use Rattle.milp_builder.proofs.ProgramLemmas.{grown_count}
use Rattle.milp_builder.proofs.program.box_rows.Goals as goal

pub haul_rows-requires-clause-free : goal.haul_rows-requires-clause-free
haul_rows-requires-clause-free c =
    let road = c.args.road.now in
    let lines = lines_in road c.args.ranges.now.heights in
    let grew = c.in_ok-section_rows.ensures.ok in
    let count = grown_count road (section_forms road lines) c.in_ok-rows.rows c.section_rows.new.rows grew (ap (λ (s : HeldRows (Term ℤ)). s.rows) c.in_ok-rows.ensures) in
    omega (arith, count, length-section_forms road lines, grew.room, ap (λ (s : HeldRows (Term ℤ)). s.room) c.in_ok-rows.ensures, c.row_count.ensures.value)

pub returns-clause-along : goal.returns-clause-along
returns-clause-along c =
    let road = c.args.road.now in
    let lines = lines_in road c.args.ranges.now.heights in
    let grew = c.in_ok-section_rows.ensures.ok in
    c.count-along.ensures
    ∙ grown_count road (section_forms road lines) c.in_ok-rows.rows c.section_rows.new.rows grew (ap (λ (s : HeldRows (Term ℤ)). s.rows) c.in_ok-rows.ensures)
    ∙ length-section_forms road lines
