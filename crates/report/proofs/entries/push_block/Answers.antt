use Rattle.std.proofs.Common.{ap, ◌∙◌}
use Rattle.std.specs.Fmt.{decimal}
use Rattle.road_types.specs.declared.road.Block.{Block}
use Rattle.report.specs.Reports.{opening_text}
use Rattle.report.proofs.LinesLemmas.{ok_gives, three_cells}
use Rattle.report.proofs.entries.push_block.Goals as goal

pub returns : goal.returns
returns c =
    let name = c.as_bytes.ensures.value ∙ c.in_ok-name.ensures in
    let section = c.as_bytes-2.ensures.value ∙ c.in_ok-section.ensures ∙ ap (λ (b : Block). decimal b.section) c.block.ensures in
    let stage = c.as_bytes-3.ensures.value ∙ c.in_ok-stage.ensures ∙ ap (opening_text c.args.road.now) c.opening_at.ensures in
    ok_gives c.push_row.result c.push_row.ensures (λ e. three_cells _ _ _ _ _ _ _ _ name section stage e)
