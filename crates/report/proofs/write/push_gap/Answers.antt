use Rattle.std.proofs.lemmas.Int.{to_z-of_z}
use Rattle.report.specs.Lines.{gap}
use Rattle.report.proofs.LinesLemmas.{ok_gives, alone_added}
use Rattle.report.proofs.write.push_gap.Goals as goal

pub returns : goal.returns
returns c =
    let fits = c.ranges.cost in
    let den = c.ranges.den in
    let shown = simp to_z-of_z at c.gap_text.ensures in
    ok_gives c.push_line.result c.push_line.ensures (λ e. alone_added (gap c.args.cost c.args.den c.args.bound.now) _ _ _ shown e)
