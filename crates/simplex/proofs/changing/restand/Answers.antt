use Rattle.std.proofs.Common.{◌<◌, ◌≤◌, length, arith, ◌∙◌}
use Rattle.std.proofs.Math.ListN.{length-set}
use Rattle.simplex.proofs.Swapping.{walked_beyond, walked_more}
use Rattle.simplex.proofs.changing.restand.Goals as goal

pub returns-then-column-columns-clause-stood : goal.returns-then-column-columns-clause-stood
returns-then-column-columns-clause-stood g c = λ end line.
    walked_beyond g.W.Whole.meaning c.args.costs.now c.args.columns c.args.at_high.now end c.loop-term.term-index c.loop-term.at_high (c.loop-term.invariant.1 end line) c.term-item.result c.loop-term-test.true c.term-item.is c.if-column-columns.true

pub loop-term-preserved : goal.loop-term-preserved
loop-term-preserved g c =
    let size = c.loop-term.invariant.0 in
    let within : c.args.columns < length c.loop-term.at_high = omega arith in
    let low : c.term-item.result.column ≤ c.args.columns = omega arith in (
      length-set c.loop-term.at_high c.term-item.result.column c.is_negative.result ∙ size,
      λ end line. walked_more g.W.Whole.meaning c.args.costs.now c.args.columns c.args.at_high.now end c.loop-term.term-index c.loop-term.at_high (c.loop-term.invariant.1 end line) c.term-item.result c.loop-term-test.true c.term-item.is
          low within c.is_negative.result c.is_negative.ensures,
    )
