use Rattle.std.proofs.Common.{arith}
use Rattle.numbers.proofs.DivisorsLemmas.{made_multiple, multiple_exceeds, factor_exceeds}
use Rattle.numbers.proofs.divisors.multiple_within.Goals as goal

pub returns-then-factor-most-clause-exceeds : goal.returns-then-factor-most-clause-exceeds
returns-then-factor-most-clause-exceeds c none m =
    let low = c.lowest_terms-factor.ensures in
    factor_exceeds _ _ _ _ low.same low.lowest c.requires.positive c.args.most m c.if-factor-most.true

pub returns-then-multiple-most-clause-value : goal.returns-then-multiple-most-clause-value
returns-then-multiple-most-clause-value c =
    let low = c.lowest_terms-factor.ensures in
    made_multiple _ _ _ _ low.same low.lowest c.requires.positive _ c.product-multiple.ensures

pub returns-else-multiple-most-clause-exceeds : goal.returns-else-multiple-most-clause-exceeds
returns-else-multiple-most-clause-exceeds c none m =
    let low = c.lowest_terms-factor.ensures in
    let over = c.if-multiple-most.false in
    let is = c.product-multiple.ensures in
    multiple_exceeds _ _ _ _ low.same low.lowest c.requires.positive c.args.most m (omega arith)
