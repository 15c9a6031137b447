use Rattle.std.proofs.Common.{◌<◌, inl, inr, length, arith, sym, refl}
use Rattle.sparse_rows.proofs.LinesLemmas.{line_wider}
use Rattle.sparse_rows.proofs.SumsLemmas.{meaning_here}
use Rattle.sparse_rows.proofs.Tests.{told_true, told_false}
use Rattle.simplex.proofs.Breaks.{broken_sum, same_sign_at, opposite_sign_at, wide_product}
use Rattle.simplex.proofs.pricing.broken_bound_in.Goals as goal

pub returns-in_default-clause-wide : goal.returns-in_default-clause-wide
returns-in_default-clause-wide g c =
    let e = c.entry-pivot.ensures (length c.args.low.now) (line_wider g.W.Whole.meaning 1 0 (length c.args.low.now) c.args.row.now (omega arith) c.requires.line) in
    let m = meaning_here g.W.Whole.meaning c.args.low.now c.args.basic c.index-low-place.result c.requires.basic.1 c.index-low-place.is in
    inr (refl, inl (wide_product _ _ _ _ _ e m c.in_default.ensures.wide))

pub returns-then-breaks_low-clause-broken : goal.returns-then-breaks_low-clause-broken
returns-then-breaks_low-clause-broken g c =
    let e = c.entry-pivot.ensures (length c.args.low.now) (line_wider g.W.Whole.meaning 1 0 (length c.args.low.now) c.args.row.now (omega arith) c.requires.line) in
    let m = meaning_here g.W.Whole.meaning c.args.low.now c.args.basic c.index-low-place.result c.requires.basic.1 c.index-low-place.is in
    same_sign_at _ _ _ _ e (broken_sum _ _ _ _ _ _ _ c.in-Ok.ensures.sum c.in-Some.ensures.value e m) (told_true c.breaks_low.result c.if-breaks_low.true c.breaks_low.ensures)

pub returns-then-not-has_high-place-clause-not_low : goal.returns-then-not-has_high-place-clause-not_low
returns-then-not-has_high-place-clause-not_low g c =
    let e = c.entry-pivot.ensures (length c.args.low.now) (line_wider g.W.Whole.meaning 1 0 (length c.args.low.now) c.args.row.now (omega arith) c.requires.line) in
    let m = meaning_here g.W.Whole.meaning c.args.low.now c.args.basic c.index-low-place.result c.requires.basic.1 c.index-low-place.is in
    λ h. told_false c.breaks_low.result c.if-breaks_low.false c.breaks_low.ensures (same_sign_at _ _ _ _ (sym e) (sym (broken_sum _ _ _ _ _ _ _ c.in-Ok.ensures.sum c.in-Some.ensures.value e m)) h)

pub returns-in_default-product_of-clause-wide : goal.returns-in_default-product_of-clause-wide
returns-in_default-product_of-clause-wide g c =
    let e = c.entry-pivot.ensures (length c.args.low.now) (line_wider g.W.Whole.meaning 1 0 (length c.args.low.now) c.args.row.now (omega arith) c.requires.line) in
    let within : c.args.basic < length c.args.high.now = (let l = c.requires.basic.1 in omega arith) in
    let m = meaning_here g.W.Whole.meaning c.args.high.now c.args.basic c.index-high-place.result within c.index-high-place.is in
    inr (refl, inr (c.if-not-has_high-place.false, wide_product _ _ _ _ _ e m c.in_default-product_of.ensures.wide))

pub returns-then-breaks_high-clause-broken : goal.returns-then-breaks_high-clause-broken
returns-then-breaks_high-clause-broken g c =
    let e = c.entry-pivot.ensures (length c.args.low.now) (line_wider g.W.Whole.meaning 1 0 (length c.args.low.now) c.args.row.now (omega arith) c.requires.line) in
    let within : c.args.basic < length c.args.high.now = (let l = c.requires.basic.1 in omega arith) in
    let m = meaning_here g.W.Whole.meaning c.args.high.now c.args.basic c.index-high-place.result within c.index-high-place.is in
    (c.if-not-has_high-place.false, opposite_sign_at _ _ _ _ e (broken_sum _ _ _ _ _ _ _ c.in-Ok.ensures.sum c.in-Some-product_of.ensures.value e m) (told_true c.breaks_high.result c.if-breaks_high.true c.breaks_high.ensures))

pub returns-clause-not_low : goal.returns-clause-not_low
returns-clause-not_low g c =
    let e = c.entry-pivot.ensures (length c.args.low.now) (line_wider g.W.Whole.meaning 1 0 (length c.args.low.now) c.args.row.now (omega arith) c.requires.line) in
    let m = meaning_here g.W.Whole.meaning c.args.low.now c.args.basic c.index-low-place.result c.requires.basic.1 c.index-low-place.is in
    λ h. told_false c.breaks_low.result c.if-breaks_low.false c.breaks_low.ensures (same_sign_at _ _ _ _ (sym e) (sym (broken_sum _ _ _ _ _ _ _ c.in-Ok.ensures.sum c.in-Some.ensures.value e m)) h)

pub returns-clause-not_high : goal.returns-clause-not_high
returns-clause-not_high g c =
    let e = c.entry-pivot.ensures (length c.args.low.now) (line_wider g.W.Whole.meaning 1 0 (length c.args.low.now) c.args.row.now (omega arith) c.requires.line) in
    let within : c.args.basic < length c.args.high.now = (let l = c.requires.basic.1 in omega arith) in
    let m = meaning_here g.W.Whole.meaning c.args.high.now c.args.basic c.index-high-place.result within c.index-high-place.is in
    λ h. told_false c.breaks_high.result c.if-breaks_high.false c.breaks_high.ensures (opposite_sign_at _ _ _ _ (sym e) (sym (broken_sum _ _ _ _ _ _ _ c.in-Ok.ensures.sum c.in-Some-product_of.ensures.value e m)) h.1)
