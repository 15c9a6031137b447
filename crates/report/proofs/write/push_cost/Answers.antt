use Rattle.std.proofs.Common.{codes}
use Rattle.std.proofs.lemmas.Int.{to_z-of_z}
use Rattle.report.specs.Lines.{ratio}
use Rattle.report.proofs.CellsLemmas.{shown_by}
use Rattle.report.proofs.LinesLemmas.{ok_gives, alone_added}
use Rattle.report.proofs.write.push_cost.Goals as goal

pub returns : goal.returns
returns c =
    let fits = c.ranges.cost in
    let den = c.ranges.den in
    let cost = shown_by _ _ _ _ _ c.as_str.ensures.value (simp to_z-of_z at c.in_ok-text.ensures) in
    ok_gives c.push_line.result c.push_line.ensures (λ e. alone_added (ratio (codes "cost ") c.args.cost c.args.den) _ _ _ cost e)
