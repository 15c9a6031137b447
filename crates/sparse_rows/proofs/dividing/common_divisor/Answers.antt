use Rattle.sparse_rows.proofs.Tests.{told_true}
use Rattle.std.proofs.Common.{◌≤◌, length, arith}
use Rattle.sparse_rows.proofs.Common.{gathering_none, gathering_more, gathering_one, gathering_all, gathered_entries}
use Rattle.sparse_rows.proofs.dividing.common_divisor.Goals as goal

pub loop-term-init : goal.loop-term-init
loop-term-init g c = gathering_none g.T.Whole.meaning c.args.terms.now _ c.least_magnitude-divisor.ensures.divides c.least_magnitude-divisor.ensures.not_negative

pub returns-then-is_one : goal.returns-then-is_one
returns-then-is_one g c =
    let more = gathering_more g.T.Whole.meaning c.args.terms.now c.loop-term.term-index c.term-item.result _ _ c.loop-term-test.true c.term-item.is c.loop-term.invariant c.gcd-divisor.ensures in
    gathered_entries g.T.Whole.meaning c.args.terms.now _
    (gathering_one g.T.Whole.meaning c.args.terms.now _ _ more (told_true c.is_one.result c.if-is_one.true c.is_one.ensures))

pub loop-term-preserved : goal.loop-term-preserved
loop-term-preserved g c =
    gathering_more g.T.Whole.meaning c.args.terms.now c.loop-term.term-index c.term-item.result _ _ c.loop-term-test.true c.term-item.is c.loop-term.invariant c.gcd-divisor.ensures

pub returns : goal.returns
returns g c =
    let l : length c.args.terms.now ≤ c.loop-term.term-index = omega arith in
    gathered_entries g.T.Whole.meaning c.args.terms.now _ (gathering_all g.T.Whole.meaning c.args.terms.now _ _ l c.loop-term.invariant)
