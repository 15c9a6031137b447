use Rattle.std.proofs.Common.{arith, refl}
use Rattle.numbers.proofs.FractionsLemmas.{common_of_none, common_more, common_exceeds}
use Rattle.numbers.proofs.fraction.common_den.Goals as goal

pub loop-part-init : goal.loop-part-init
loop-part-init c = record { common = common_of_none c.args.parts.now; within = omega arith }

pub returns-in_default-clause-exceeds : goal.returns-in_default-clause-exceeds
returns-in_default-clause-exceeds c none =
    common_exceeds c.args.parts.now c.loop-part.part-index c.loop-part.common c.size_of_den.result c.part-item.result c.loop-part-test.true c.part-item.is c.size_of_den.ensures.value c.size_of_den.ensures.positive c.loop-part.invariant.common 1099511627776 (c.in_default.ensures.exceeds refl)

pub loop-part-preserved : goal.loop-part-preserved
loop-part-preserved c = record {
  common = common_more c.args.parts.now c.loop-part.part-index c.loop-part.common c.size_of_den.result c.part-item.result c.loop-part-test.true c.part-item.is c.size_of_den.ensures.value c.size_of_den.ensures.positive c.loop-part.invariant.common c.in-Some.next c.in-Some.ensures.value;
  within = c.in-Some.ensures.within;
}
