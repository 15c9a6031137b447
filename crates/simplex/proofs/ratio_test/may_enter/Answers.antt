use Rattle.std.proofs.Common.{◌≡◌, ◌<◌, true, length, arith, sym, ◌∙◌}
use Rattle.sparse_rows.proofs.SumsLemmas.{meaning_here}
use Rattle.simplex.proofs.ratio_test.may_enter.Goals as goal

pub returns-clause-movable : goal.returns-clause-movable
returns-clause-movable g c =
    let within : c.args.column < length c.args.high.now = omega arith in
    let l = meaning_here g.W.Whole.meaning c.args.low.now c.args.column c.index-low-place.result c.requires.column c.index-low-place.is in
    let h = meaning_here g.W.Whole.meaning c.args.high.now c.args.column c.index-high-place.result within c.index-high-place.is in
    λ told _ same. c.differ.ensures.0 told (l ∙ (same ∙ sym h))

pub returns-clause-all : goal.returns-clause-all
returns-clause-all g c =
    let within : c.args.column < length c.args.high.now = omega arith in
    let l = meaning_here g.W.Whole.meaning c.args.low.now c.args.column c.index-low-place.result c.requires.column c.index-low-place.is in
    let h = meaning_here g.W.Whole.meaning c.args.high.now c.args.column c.index-high-place.result within c.index-high-place.is in
    λ other movable toward. c.differ.ensures.1 (λ same. movable (bool_true _ c.if-not-has_high-place.false) (sym l ∙ (same ∙ h)))
  where
    bool_true : (b : _) → b ≡ true → b ≡ true
    bool_true b e = e
