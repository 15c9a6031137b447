use Rattle.std.proofs.Common.{◌∙◌, FitsSigned, rules}
use Rattle.std.specs.Int.{w128}
use Rattle.std.proofs.lemmas.Int.{to_z-of_z}
use Rattle.report.proofs.CellsLemmas.{shown_by}
use Rattle.report.proofs.LinesLemmas.{ok_gives}
use Rattle.report.proofs.MassLemmas.{five_cells}
use Rattle.report.proofs.mass.push_net.Goals as goal

pub returns : goal.returns
returns c =
    let fits : FitsSigned w128 c.net_haul-net.result = search rules in
    let stage = c.as_bytes.ensures.value ∙ c.in_ok-stage.ensures in
    let from = c.as_bytes-2.ensures.value ∙ c.in_ok-from.ensures in
    let begin = c.as_bytes-3.ensures.value ∙ c.in_ok-from.ensures in
    let to = c.as_bytes-4.ensures.value ∙ c.in_ok-to.ensures in
    let net = shown_by _ _ _ _ _ c.as_bytes-5.ensures.value (rw c.net_haul-net.ensures.value at (simp to_z-of_z at c.in_ok-net.ensures)) in
    ok_gives c.push_row.result c.push_row.ensures (λ e. five_cells _ _ _ _ _ _ _ _ _ _ _ _ stage from begin to net e)
