use Rattle.std.proofs.Common.{◌∙◌, ◌&&◌, sym}
use Rattle.std.proofs.lemmas.Int.{to_z-of_z}
use Rattle.report.specs.Reports.{is_nothing}
use Rattle.report.proofs.CellsLemmas.{shown_by}
use Rattle.report.proofs.LinesLemmas.{ok_gives, four_cells, else_added}
use Rattle.report.proofs.entries.push_work.Goals as goal

pub returns : goal.returns
returns c =
    let cut_fits = c.ranges.cut in
    let fill_fits = c.ranges.fill in
    let stage = c.as_bytes.ensures.value ∙ c.in_ok-stage.ensures in
    let section = c.as_bytes-2.ensures.value ∙ c.in_ok-section.ensures in
    let cut = shown_by _ _ _ _ _ c.as_bytes-3.ensures.value (simp to_z-of_z at c.in_ok-cut.ensures) in
    let fill = shown_by _ _ _ _ _ c.as_bytes-4.ensures.value (simp to_z-of_z at c.in_ok-fill.ensures) in
    let some = sym (simp to_z-of_z at c.are_nothing.ensures) ∙ c.if-are_nothing.false in
    ok_gives c.push_row.result c.push_row.ensures
    (λ e. else_added (is_nothing c.args.cut && is_nothing c.args.fill) _ _ _ some (four_cells _ _ _ _ _ _ _ _ _ _ stage section cut fill e))
