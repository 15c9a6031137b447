use Rattle.std.proofs.Common.{arith}
use Rattle.algebra.proofs.TotalsLemmas.{total_to_step}
use Rattle.road_types.specs.Road.{hop}
use Rattle.road_types.specs.inside.Loads.{hop_load}
use Rattle.road_types.proofs.weight.hops_load.Goals as goal

pub loop-before-preserved : goal.loop-before-preserved
loop-before-preserved c = record {
  value = omega (arith, total_to_step (λ h. hop_load c.args.road.now (hop c.args.road.now h)) c.loop-before.before, rw c.hop.ensures at c.hop_load-total.ensures.value);
  small = omega (arith, c.hop_load-total.ensures.small);
}
