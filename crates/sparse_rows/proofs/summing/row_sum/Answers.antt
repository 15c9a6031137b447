use Rattle.std.proofs.Common.{◌≢◌, ◌<◌, ◌≤◌, inl, inr, length, arith, sym, ◌∙◌, ap, subst}
use Rattle.std.specs.Prelude.{ℤ, unsigned_abs, ◌+ℤ◌, ◌*ℤ◌}
use Rattle.sparse_rows.proofs.Tests.{beyond, told_true}
use Rattle.sparse_rows.proofs.SumsLemmas.{column_first, column_end, share_product, summed_sum, summed_more, summed_without, summed_nothing, summed_all}
use Rattle.sparse_rows.proofs.summing.row_sum.Goals as goal

pub standing-bound-requires-clause-column : goal.standing-bound-requires-clause-column
standing-bound-requires-clause-column g c =
    column_end g.W.Whole.meaning c.args.row.now c.args.without c.args.low.now c.args.high.now c.args.at_high.now (length c.args.low.now) c.loop-term.term-index _ c.loop-term.invariant c.term-item.result c.loop-term-test.true c.term-item.is

pub returns-in_default-clause-wide : goal.returns-in_default-clause-wide
returns-in_default-clause-wide g c =
    let differ : c.args.without ≢ c.term-item.result.column = λ e. c.if-column-without.false (sym e) in
    let e = share_product g.W.Whole.meaning c.args.row.now c.args.without c.args.low.now c.args.high.now c.args.at_high.now (length c.args.low.now) c.loop-term.term-index _ c.loop-term.invariant c.term-item.result c.loop-term-test.true c.term-item.is differ in
    inl (subst (λ (x : ℤ). g.T.Whole.greatest < unsigned_abs x) (sym (e ∙ ap (λ y. g.W.Whole.meaning c.term-item.result.value *ℤ y) (sym c.standing-bound.ensures))) c.in_default.ensures.wide)

pub returns-in_default-clause-column : goal.returns-in_default-clause-column
returns-in_default-clause-column g c = (
  column_first g.W.Whole.meaning c.args.row.now c.args.without c.args.low.now c.args.high.now c.args.at_high.now (length c.args.low.now) c.loop-term.term-index _ c.loop-term.invariant c.term-item.result c.loop-term-test.true c.term-item.is,
  column_end g.W.Whole.meaning c.args.row.now c.args.without c.args.low.now c.args.high.now c.args.at_high.now (length c.args.low.now) c.loop-term.term-index _ c.loop-term.invariant c.term-item.result c.loop-term-test.true c.term-item.is,
)

pub returns-in_default-plus-clause-wide : goal.returns-in_default-plus-clause-wide
returns-in_default-plus-clause-wide g c =
    let differ : c.args.without ≢ c.term-item.result.column = λ e. c.if-column-without.false (sym e) in
    let e = share_product g.W.Whole.meaning c.args.row.now c.args.without c.args.low.now c.args.high.now c.args.at_high.now (length c.args.low.now) c.loop-term.term-index _ c.loop-term.invariant c.term-item.result c.loop-term-test.true c.term-item.is differ in
    let product = c.in-Some.ensures.value ∙ (ap (λ y. g.W.Whole.meaning c.term-item.result.value *ℤ y) c.standing-bound.ensures ∙ sym e) in
    let all = summed_sum g.W.Whole.meaning c.args.row.now c.args.without c.args.low.now c.args.high.now c.args.at_high.now (length c.args.low.now) c.loop-term.term-index _ c.loop-term.invariant c.term-item.result c.loop-term-test.true c.term-item.is in
    inr (subst (λ (x : ℤ). g.T.Whole.greatest < unsigned_abs x) (ap (λ y. g.T.Whole.meaning c.loop-term.total +ℤ y) product ∙ sym all) (beyond _ _ c.in_default-plus.ensures.some.1))

pub returns-in_default-plus-clause-column : goal.returns-in_default-plus-clause-column
returns-in_default-plus-clause-column g c = (
  column_first g.W.Whole.meaning c.args.row.now c.args.without c.args.low.now c.args.high.now c.args.at_high.now (length c.args.low.now) c.loop-term.term-index _ c.loop-term.invariant c.term-item.result c.loop-term-test.true c.term-item.is,
  column_end g.W.Whole.meaning c.args.row.now c.args.without c.args.low.now c.args.high.now c.args.at_high.now (length c.args.low.now) c.loop-term.term-index _ c.loop-term.invariant c.term-item.result c.loop-term-test.true c.term-item.is,
)

pub loop-term-preserved : goal.loop-term-preserved
loop-term-preserved g c =
    let differ : c.args.without ≢ c.term-item.result.column = λ e. c.if-column-without.false (sym e) in
    let e = share_product g.W.Whole.meaning c.args.row.now c.args.without c.args.low.now c.args.high.now c.args.at_high.now (length c.args.low.now) c.loop-term.term-index _ c.loop-term.invariant c.term-item.result c.loop-term-test.true c.term-item.is differ in
    let product = c.in-Some.ensures.value ∙ (ap (λ y. g.W.Whole.meaning c.term-item.result.value *ℤ y) c.standing-bound.ensures ∙ sym e) in
    summed_more g.W.Whole.meaning c.args.row.now c.args.without c.args.low.now c.args.high.now c.args.at_high.now (length c.args.low.now) c.loop-term.term-index _ c.loop-term.invariant c.term-item.result c.loop-term-test.true c.term-item.is _ (c.in-Some-plus.ensures.value ∙ ap (λ y. g.T.Whole.meaning c.loop-term.total +ℤ y) product)

pub loop-term-preserved-then-column-without : goal.loop-term-preserved-then-column-without
loop-term-preserved-then-column-without g c = summed_without g.W.Whole.meaning c.args.row.now c.args.without c.args.low.now c.args.high.now c.args.at_high.now (length c.args.low.now) c.loop-term.term-index _ c.loop-term.invariant c.term-item.result c.loop-term-test.true c.term-item.is c.if-column-without.true

pub returns-clause-sum : goal.returns-clause-sum
returns-clause-sum g c =
    let l : length c.args.row.now ≤ c.loop-term.term-index = omega arith in
    summed_all g.W.Whole.meaning c.args.row.now c.args.without c.args.low.now c.args.high.now c.args.at_high.now (length c.args.low.now) c.loop-term.term-index _ c.loop-term.invariant l

pub loop-term-preserved-then-is_zero : goal.loop-term-preserved-then-is_zero
loop-term-preserved-then-is_zero g c =
    let differ : c.args.without ≢ c.term-item.result.column = λ e. c.if-column-without.false (sym e) in
    let e = share_product g.W.Whole.meaning c.args.row.now c.args.without c.args.low.now c.args.high.now c.args.at_high.now (length c.args.low.now) c.loop-term.term-index _ c.loop-term.invariant c.term-item.result c.loop-term-test.true c.term-item.is differ in
    let bound = sym c.standing-bound.ensures ∙ told_true c.is_zero.result c.if-is_zero.true c.is_zero.ensures in
    summed_nothing g.W.Whole.meaning c.args.row.now c.args.without c.args.low.now c.args.high.now c.args.at_high.now (length c.args.low.now) c.loop-term.term-index _ c.loop-term.invariant c.term-item.result c.loop-term-test.true c.term-item.is
    (g.W.Whole.meaning c.term-item.result.value) (e ∙ ap (λ y. g.W.Whole.meaning c.term-item.result.value *ℤ y) bound)
