use Rattle.std.proofs.Common.{arith, refl}
use Rattle.road_types.proofs.AcceptedRoad.{IsAccepted-from_fault}
use Rattle.report.specs.Mass.{ordinate, zone_line}
use Rattle.report.proofs.LinesLemmas.{nothing_added}
use Rattle.report.proofs.MassLemmas.{moderate_hauls, few_hops_at_all, more_zones_added}
use Rattle.report.proofs.zones.push_zones.Goals as goal

pub loop-before-init : goal.loop-before-init
loop-before-init c = record { first = refl; peak = refl; adds = nothing_added _ }

pub loop-before-preserved : goal.loop-before-preserved
loop-before-preserved c = record {
  first = c.next_run-run.ensures.first;
  peak = c.next_run-run.ensures.peak;
  adds = more_zones_added (zone_line c.args.plan.now c.args.stage) (ordinate c.args.plan.now c.args.stage) c.loop-before.before _ _ _ c.loop-before.invariant.adds c.in_ok-push_zone_at.ensures;
}

pub next_run-run-requires-clause-fits : goal.next_run-run-requires-clause-fits
next_run-run-requires-clause-fits c = moderate_hauls c.args.road.now c.args.plan.now c.requires.fits

pub push_zone_at-requires-clause-fits : goal.push_zone_at-requires-clause-fits
push_zone_at-requires-clause-fits c = moderate_hauls c.args.road.now c.args.plan.now c.requires.fits

pub next_run-run-requires-clause-hop : goal.next_run-run-requires-clause-hop
next_run-run-requires-clause-hop c =
    let few = few_hops_at_all c.args.road.now (IsAccepted-from_fault c.args.road.now c.requires.accepted).well_formed in
    omega (arith, few, c.loop-before-test.true)

pub push_zone_at-requires-clause-hop : goal.push_zone_at-requires-clause-hop
push_zone_at-requires-clause-hop c =
    let few = few_hops_at_all c.args.road.now (IsAccepted-from_fault c.args.road.now c.requires.accepted).well_formed in
    omega (arith, few, c.loop-before-test.true)
