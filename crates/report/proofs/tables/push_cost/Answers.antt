use Rattle.std.proofs.lemmas.Int.{to_z-of_z}
use Rattle.report.proofs.CellsLemmas.{shown_by}
use Rattle.report.proofs.LinesLemmas.{ok_gives, two_cells}
use Rattle.report.proofs.tables.push_cost.Goals as goal

pub returns : goal.returns
returns c =
    let fits = c.ranges.cost in
    let cost = shown_by _ _ _ _ _ c.as_bytes-2.ensures.value (simp to_z-of_z at c.in_ok-cost.ensures) in
    ok_gives c.push_row.result c.push_row.ensures (λ e. two_cells _ _ _ _ _ _ c.as_bytes.ensures.value cost e)
