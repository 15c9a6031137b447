use Rattle.std.proofs.Common.{FitsSigned, rules}
use Rattle.std.specs.Int.{w128}
use Rattle.std.proofs.lemmas.Int.{to_z-of_z}
use Rattle.road_types.proofs.AcceptedRoad.{IsAccepted-from_fault}
use Rattle.report.proofs.MassLemmas.{ordinate_sum, few_sections}
use Rattle.report.proofs.mass.ordinate.Goals as goal

pub returns-clause-sections : goal.returns-clause-sections
returns-clause-sections c =
    let road = c.args.road.now in
    let ok = (IsAccepted-from_fault road c.requires.accepted).well_formed in
    let fits : FitsSigned w128 c.net_haul.result = search rules in
    simp to_z-of_z (rw c.net_haul.ensures.value (ordinate_sum road c.args.plan.now c.requires.admissible c.args.stage c.args.hop c.requires.stage (few_sections road ok c.args.hop c.requires.hop)))
