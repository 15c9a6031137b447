use Rattle.std.proofs.Common.{arith, [], ◌∷◌}
use Rattle.road_types.proofs.AcceptedRoad.{IsAccepted-from_fault}
use Rattle.report.specs.Mass.{mass_line}
use Rattle.report.proofs.LinesLemmas.{nothing_added, one_more_added}
use Rattle.report.proofs.MassLemmas.{moderate_hauls, few_hops_at_all}
use Rattle.report.proofs.mass.push_nets.Goals as goal

pub loop-before-init : goal.loop-before-init
loop-before-init c = nothing_added _

pub push_net-requires-clause-fits : goal.push_net-requires-clause-fits
push_net-requires-clause-fits c = moderate_hauls c.args.road.now c.args.plan.now c.requires.fits

pub loop-before-preserved : goal.loop-before-preserved
loop-before-preserved c = one_more_added (λ h. mass_line c.args.plan.now c.args.stage h ∷ []) _ _ _ _ c.loop-before.invariant c.in_ok-push_net.ensures

pub push_net-requires-clause-hop : goal.push_net-requires-clause-hop
push_net-requires-clause-hop c =
    let few = few_hops_at_all c.args.road.now (IsAccepted-from_fault c.args.road.now c.requires.accepted).well_formed in
    omega (arith, few, c.loop-before-test.true)
