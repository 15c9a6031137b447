use Rattle.sparse_rows.proofs.Tests.{told_true, told_false}
use Rattle.std.proofs.Common.{◌≡◌, ℕ, arith, sym, ◌∙◌, subst, ⊎_elim}
use Rattle.std.specs.Prelude.{pos, ◌≢◌}
use Rattle.sparse_rows.proofs.LinesLemmas.{filled_more, filled_none, same_or_not}
use Rattle.sparse_rows.proofs.cells.put.Goals as goal

pub returns-then-is_zero-clause-filled : goal.returns-then-is_zero-clause-filled
returns-then-is_zero-clause-filled g c =
    let z = told_true c.is_zero.result c.if-is_zero.true c.is_zero.ensures in
    λ entries from filled low none here. filled_none g.T.Whole.meaning c.args.terms.now.items from _ entries filled (omega arith)
    (λ j first last. ⊎_elim
    (λ (e : j ≡ c.args.column). let P : ℕ → Type 0 = λ x. entries x ≡ pos 0 in subst P (sym e) (here ∙ z))
    (λ (e : j ≢ c.args.column). none j first (omega arith))
    (same_or_not g.T.Whole.meaning j c.args.column))

pub returns-clause-filled : goal.returns-clause-filled
returns-clause-filled g c =
    let some = told_false c.is_zero.result c.if-is_zero.false c.is_zero.ensures in
    λ entries from filled low none here. rw c.push_reserved.ensures.items
    (filled_more g.T.Whole.meaning c.args.terms.now.items from c.args.column entries c.args.value filled low none here some)
