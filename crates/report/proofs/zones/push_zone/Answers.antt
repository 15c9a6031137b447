use Rattle.std.proofs.Common.{◌∙◌}
use Rattle.std.specs.Int.{w128}
use Rattle.std.proofs.lemmas.Int.{to_z_pos}
use Rattle.report.proofs.CellsLemmas.{shown_by}
use Rattle.report.proofs.LinesLemmas.{ok_gives}
use Rattle.report.proofs.MassLemmas.{five_cells}
use Rattle.report.proofs.zones.push_zone.Goals as goal

pub returns : goal.returns
returns c =
    let stage = c.as_bytes.ensures.value ∙ c.in_ok-stage.ensures in
    let from = c.as_bytes-2.ensures.value ∙ c.in_ok-from.ensures in
    let to = c.as_bytes-3.ensures.value ∙ c.in_ok-to.ensures in
    let way = c.as_bytes-4.ensures.value ∙ c.text.ensures in
    let peak = shown_by _ _ _ _ _ c.as_bytes-5.ensures.value (rw (to_z_pos w128 c.args.run.peak c.requires.peak) at c.in_ok-peak.ensures) in
    ok_gives c.push_row.result c.push_row.ensures (λ e. five_cells _ _ _ _ _ _ _ _ _ _ _ _ stage from to way peak e)
