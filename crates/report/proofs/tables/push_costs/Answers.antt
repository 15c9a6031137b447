use Rattle.std.proofs.Common.{FitsSigned, rules}
use Rattle.std.specs.Int.{w128}
use Rattle.std.proofs.lemmas.Int.{to_z-of_z}
use Rattle.report.proofs.LinesLemmas.{ok_gives, six_added}
use Rattle.report.proofs.tables.push_costs.Goals as goal

pub returns : goal.returns
returns c =
    let cut_fits : FitsSigned w128 c.args.totals.cut = search rules in
    let fill_fits : FitsSigned w128 c.args.totals.fill = search rules in
    let haul_fits : FitsSigned w128 c.args.totals.haul = search rules in
    let access_fits : FitsSigned w128 c.args.totals.access = search rules in
    let removal_fits : FitsSigned w128 c.args.totals.removal = search rules in
    let total_fits : FitsSigned w128 c.whole_cost.result = search rules in
    let cut = simp to_z-of_z at c.in_ok-push_cost.ensures in
    let fill = simp to_z-of_z at c.in_ok-push_cost-2.ensures in
    let haul = simp to_z-of_z at c.in_ok-push_cost-3.ensures in
    let access = simp to_z-of_z at c.in_ok-push_cost-4.ensures in
    let removal = simp to_z-of_z at c.in_ok-push_cost-5.ensures in
    ok_gives c.push_cost-6.result c.push_cost-6.ensures
    (λ h. six_added _ _ _ _ _ _ _ _ _ _ _ _ _ cut fill haul access removal (rw c.whole_cost.ensures.value at (simp to_z-of_z at h)))
