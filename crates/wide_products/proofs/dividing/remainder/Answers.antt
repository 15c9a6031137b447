use Rattle.std.proofs.Common.{◌+◌, ◌*◌, ◌/◌, ◌^◌, sym}
use Rattle.wide_products.proofs.NaturalsLemmas.{long_whole}
use Rattle.wide_products.proofs.dividing.remainder.Goals as goal

pub returns-clause-whole : goal.returns-clause-whole
returns-clause-whole c = (
  c.half_quotient.result.0 + (c.args.v.high / c.args.divisor) * 2 ^ 128,
  sym (long_whole c.args.v.high c.args.v.low c.args.divisor c.half_quotient.result.0 c.half_quotient.result.1 c.half_quotient.ensures.whole),
)
