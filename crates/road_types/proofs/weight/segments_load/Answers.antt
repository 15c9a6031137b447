use Rattle.std.proofs.Common.{arith}
use Rattle.algebra.proofs.TotalsLemmas.{total_to_step}
use Rattle.road_types.specs.inside.Loads.{segment_load}
use Rattle.road_types.proofs.weight.segments_load.Goals as goal

pub loop-before-preserved : goal.loop-before-preserved
loop-before-preserved c = record {
  value = omega (arith, total_to_step (segment_load c.args.road.now) c.loop-before.before, c.segment_load-total.ensures.value);
  small = omega (arith, c.segment_load-total.ensures.small);
}
