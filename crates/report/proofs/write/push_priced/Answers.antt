use Rattle.std.proofs.Common.{FitsSigned, rules}
use Rattle.std.specs.Int.{w128}
use Rattle.std.proofs.lemmas.Int.{to_z-of_z}
use Rattle.report.specs.Reports.{bounded_lines}
use Rattle.report.proofs.LinesLemmas.{ok_gives, three_added}
use Rattle.report.proofs.write.push_priced.Goals as goal

pub returns : goal.returns
unfolding bounded_lines
returns c =
    let fits = c.ranges.cost in
    let den : FitsSigned w128 c.args.plan.now.den = search rules in
    let cost = simp to_z-of_z at c.in_ok-push_cost.ensures in
    rw (← c.requires.cost)
    (ok_gives c.push_gap.result c.push_gap.ensures (λ h. three_added _ _ _ _ _ _ _ cost c.in_ok-push_bound.ensures (simp to_z-of_z at h)))
