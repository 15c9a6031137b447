use Rattle.std.proofs.Common.{arith}
use Rattle.algebra.proofs.TotalsLemmas.{total_to_step}
use Rattle.road_types.specs.Road.{section}
use Rattle.road_types.specs.inside.Loads.{section_load}
use Rattle.road_types.proofs.weight.sections_load.Goals as goal

pub loop-before-preserved : goal.loop-before-preserved
loop-before-preserved c = record {
  value = omega (arith, total_to_step (λ i. section_load c.args.road.now (section c.args.road.now i)) c.loop-before.before, rw c.section.ensures at c.section_load-total.ensures.value);
  small = omega (arith, c.section_load-total.ensures.small);
}
