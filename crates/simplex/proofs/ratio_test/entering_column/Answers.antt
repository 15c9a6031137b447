use Rattle.std.proofs.Common.{length, arith, sym}
use Rattle.sparse_rows.proofs.LinesLemmas.{line_wider}
use Rattle.simplex.specs.inside.Choices.{MayEnter}
use Rattle.simplex.proofs.Ratios.{best_none, best_skipped, best_replaced, best_kept, t_end, t_entry, best_chosen, toward_same}
use Rattle.simplex.proofs.ratio_test.entering_column.Goals as goal

pub loop-term-init : goal.loop-term-init
loop-term-init g c = best_none g.W.Whole.meaning c.args.row.now c.args.costs.now c.args.basic c.args.low.now c.args.high.now c.args.has_high.now c.args.at_high.now c.args.broken (length c.args.low.now) _ _ c.requires.line c.one-best_cost.ensures c.zero-best_entry.ensures

pub may_enter-requires-clause-column : goal.may_enter-requires-clause-column
may_enter-requires-clause-column g c = t_end g.W.Whole.meaning c.args.row.now c.args.costs.now c.args.basic c.args.low.now c.args.high.now c.args.has_high.now c.args.at_high.now c.args.broken (length c.args.low.now) c.loop-term.term-index c.loop-term.best _ _ c.loop-term.invariant c.term-item.result c.loop-term-test.true c.term-item.is

pub loop-term-preserved-then-not-may_enter : goal.loop-term-preserved-then-not-may_enter
loop-term-preserved-then-not-may_enter g c =
    let pivot = c.entry-pivot.ensures (length c.args.low.now) (line_wider g.W.Whole.meaning 1 0 (length c.args.low.now) c.args.row.now (omega arith) c.requires.line) in
    let here = t_entry g.W.Whole.meaning c.args.row.now c.args.costs.now c.args.basic c.args.low.now c.args.high.now c.args.has_high.now c.args.at_high.now c.args.broken (length c.args.low.now) c.loop-term.term-index c.loop-term.best _ _ c.loop-term.invariant c.term-item.result c.loop-term-test.true c.term-item.is in
    best_skipped g.W.Whole.meaning c.args.row.now c.args.costs.now c.args.basic c.args.low.now c.args.high.now c.args.has_high.now c.args.at_high.now c.args.broken (length c.args.low.now) c.loop-term.term-index c.loop-term.best _ _ c.loop-term.invariant c.term-item.result c.loop-term-test.true c.term-item.is
    (λ h. let yes = c.may_enter.ensures.all h.other h.movable (toward_same c.args.broken _ _ _ _ _ here (sym pivot) h.toward) in
    let no_more = c.if-not-may_enter.true in absurd (cc))

pub loop-term-preserved-then-not-is_ratio_less : goal.loop-term-preserved-then-not-is_ratio_less
loop-term-preserved-then-not-is_ratio_less g c =
    let pivot = c.entry-pivot.ensures (length c.args.low.now) (line_wider g.W.Whole.meaning 1 0 (length c.args.low.now) c.args.row.now (omega arith) c.requires.line) in
    let here = t_entry g.W.Whole.meaning c.args.row.now c.args.costs.now c.args.basic c.args.low.now c.args.high.now c.args.has_high.now c.args.at_high.now c.args.broken (length c.args.low.now) c.loop-term.term-index c.loop-term.best _ _ c.loop-term.invariant c.term-item.result c.loop-term-test.true c.term-item.is in
    let enters : MayEnter g.W.Whole.meaning c.args.row.now c.args.basic c.args.low.now c.args.high.now c.args.has_high.now c.args.at_high.now c.args.broken c.term-item.result.column = record {
      other = c.may_enter.ensures.other c.if-not-may_enter.false;
      movable = c.may_enter.ensures.movable c.if-not-may_enter.false;
      toward = toward_same c.args.broken _ _ _ _ _ (sym here) pivot (c.may_enter.ensures.toward c.if-not-may_enter.false);
    } in
    let cost = c.entry-cost.ensures (length c.args.low.now) c.requires.costs in
    best_kept g.W.Whole.meaning c.args.row.now c.args.costs.now c.args.basic c.args.low.now c.args.high.now c.args.has_high.now c.args.at_high.now c.args.broken (length c.args.low.now) c.loop-term.term-index c.loop-term.best _ _ c.loop-term.invariant c.term-item.result c.loop-term-test.true c.term-item.is enters _ cost (λ less. let yes = c.is_ratio_less.ensures.1 less in let no_more = c.if-not-is_ratio_less.true in absurd (cc))

pub loop-term-preserved : goal.loop-term-preserved
loop-term-preserved g c =
    let pivot = c.entry-pivot.ensures (length c.args.low.now) (line_wider g.W.Whole.meaning 1 0 (length c.args.low.now) c.args.row.now (omega arith) c.requires.line) in
    let here = t_entry g.W.Whole.meaning c.args.row.now c.args.costs.now c.args.basic c.args.low.now c.args.high.now c.args.has_high.now c.args.at_high.now c.args.broken (length c.args.low.now) c.loop-term.term-index c.loop-term.best _ _ c.loop-term.invariant c.term-item.result c.loop-term-test.true c.term-item.is in
    let enters : MayEnter g.W.Whole.meaning c.args.row.now c.args.basic c.args.low.now c.args.high.now c.args.has_high.now c.args.at_high.now c.args.broken c.term-item.result.column = record {
      other = c.may_enter.ensures.other c.if-not-may_enter.false;
      movable = c.may_enter.ensures.movable c.if-not-may_enter.false;
      toward = toward_same c.args.broken _ _ _ _ _ (sym here) pivot (c.may_enter.ensures.toward c.if-not-may_enter.false);
    } in
    let cost = c.entry-cost.ensures (length c.args.low.now) c.requires.costs in
    best_replaced g.W.Whole.meaning c.args.row.now c.args.costs.now c.args.basic c.args.low.now c.args.high.now c.args.has_high.now c.args.at_high.now c.args.broken (length c.args.low.now) c.loop-term.term-index c.loop-term.best _ _ c.loop-term.invariant c.term-item.result c.loop-term-test.true c.term-item.is enters _ cost (c.is_ratio_less.ensures.0 c.if-not-is_ratio_less.false)

pub returns-clause-chosen : goal.returns-clause-chosen
returns-clause-chosen g c =
    best_chosen g.W.Whole.meaning c.args.row.now c.args.costs.now c.args.basic c.args.low.now c.args.high.now c.args.has_high.now c.args.at_high.now c.args.broken (length c.args.low.now) c.loop-term.term-index c.loop-term.best _ _ c.loop-term.invariant (omega arith) (λ z. absurd (c.if-best-eq0.false z))
