use Rattle.std.proofs.Common.{arith}
use Rattle.algebra.proofs.TotalsLemmas.{total_to_step}
use Rattle.road_types.specs.inside.Loads.{block_load}
use Rattle.road_types.proofs.weight.blocks_load.Goals as goal

pub loop-before-preserved : goal.loop-before-preserved
loop-before-preserved c = record {
  value = omega (arith, total_to_step (block_load c.args.road.now) c.loop-before.before, c.block_load-total.ensures.value);
  small = omega (arith, c.block_load-total.ensures.small);
}
