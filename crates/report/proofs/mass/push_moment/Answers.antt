use Rattle.std.proofs.Common.{◌∙◌, FitsSigned, rules}
use Rattle.std.specs.Int.{w128}
use Rattle.std.proofs.lemmas.Int.{to_z-of_z}
use Rattle.report.proofs.CellsLemmas.{shown_by}
use Rattle.report.proofs.LinesLemmas.{ok_gives, two_cells}
use Rattle.report.proofs.mass.push_moment.Goals as goal

pub returns : goal.returns
returns c =
    let fits : FitsSigned w128 c.moment.result = search rules in
    let stage = c.as_bytes.ensures.value ∙ c.in_ok-stage.ensures in
    let moment = shown_by _ _ _ _ _ c.as_bytes-2.ensures.value (rw c.moment.ensures.value at (simp to_z-of_z at c.in_ok-moment.ensures)) in
    ok_gives c.push_row.result c.push_row.ensures (λ e. two_cells _ _ _ _ _ _ stage moment e)
