use Rattle.sparse_rows.proofs.Tests.{told_true, told_false}
use Rattle.sparse_rows.proofs.Common.{factors_above, factors_below, divisor_positive, not_below}
use Rattle.sparse_rows.proofs.factoring.factors.Goals as goal

pub part-keep-requires-clause-positive : goal.part-keep-requires-clause-positive
part-keep-requires-clause-positive g c = divisor_positive _ _ _ c.requires c.gcd-divisor.ensures

pub part-take-requires-clause-positive : goal.part-take-requires-clause-positive
part-take-requires-clause-positive g c = divisor_positive _ _ _ c.requires c.gcd-divisor.ensures

pub returns-then-is_negative : goal.returns-then-is_negative
returns-then-is_negative g c =
    factors_below _ _ _ _ _ _ _ (told_true c.is_negative.result c.if-is_negative.true c.is_negative.ensures)
    (divisor_positive _ _ _ c.requires c.gcd-divisor.ensures) c.part-keep.ensures c.part-take.ensures c.negated.ensures c.negated-then-is_negative.ensures

pub returns-else-is_negative : goal.returns-else-is_negative
returns-else-is_negative g c =
    let no = told_false c.is_negative.result c.if-is_negative.false c.is_negative.ensures in
    factors_above _ _ _ _ _ (not_below _ no) c.requires
    (divisor_positive _ _ _ c.requires c.gcd-divisor.ensures) c.part-keep.ensures c.part-take.ensures
