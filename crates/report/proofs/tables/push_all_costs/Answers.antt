use Rattle.report.proofs.LinesLemmas.{ok_gives}
use Rattle.report.proofs.tables.push_all_costs.Goals as goal

pub returns : goal.returns
returns c =
    let totals = c.cost_totals.ensures in
    ok_gives c.push_costs.result c.push_costs.ensures (λ h. rw (totals.cut, totals.fill, totals.haul, totals.access, totals.removal) at h)
