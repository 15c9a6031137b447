use Rattle.wide_products.proofs.NaturalsLemmas.{long_whole}
use Rattle.wide_products.proofs.dividing.long_quotient.Goals as goal

pub returns : goal.returns
returns c = record {
  whole = (
    c.half_quotient.result.1,
    (
      long_whole c.args.v.high c.args.v.low c.args.divisor c.half_quotient.result.0 c.half_quotient.result.1 c.half_quotient.ensures.whole,
      c.half_quotient.ensures.rest,
    ),
  );
}
