use Rattle.std.proofs.Common.{◌≡◌, inl, inr, ap, sym, subst, ⊎_elim}
use Rattle.std.specs.Prelude.{◌*ℤ◌}
use Rattle.numbers.specs.Divisors.{Divides}
use Rattle.term_store.specs.declared.term.Term.{Term}
use Rattle.sparse_rows.proofs.Common.{either_divides, zero_scaled, opposite_scaled}
use Rattle.sparse_rows.proofs.dividing.least_magnitude.Goals as goal

pub loop-term-init : goal.loop-term-init
loop-term-init g c = λ h d all. zero_scaled g.T.Whole.meaning h d _ c.zero-least.ensures

pub loop-term-preserved : goal.loop-term-preserved
loop-term-preserved g c = λ h d all.
    let P : Term g.row.T.Denot → Type 0 = λ x. Divides d (h *ℤ g.T.Whole.meaning x.value) in
    let here : Divides d (h *ℤ g.T.Whole.meaning c.term-item.result.value) = subst P (sym c.term-item.is) (all c.loop-term.term-index c.term-item.result c.loop-term-test.true) in
    either_divides g.T.Whole.meaning h d (g.T.Whole.meaning c.loop-term.least) (g.T.Whole.meaning c.term-item.result.value) (g.T.Whole.meaning c.lesser-least.result)
    (⊎_elim
    (λ (e : c.lesser-least.result ≡ c.loop-term.least). inl (ap g.T.Whole.meaning e))
    (λ (e : c.lesser-least.result ≡ c.term-item.result.value). inr (ap g.T.Whole.meaning e))
    c.lesser-least.ensures)
    (c.loop-term.invariant h d all) here

pub returns-then-is_negative-clause-divides : goal.returns-then-is_negative-clause-divides
returns-then-is_negative-clause-divides g c = λ h d all.
    opposite_scaled g.T.Whole.meaning h d (g.T.Whole.meaning c.loop-term.least) (g.T.Whole.meaning c.negated.result) c.negated.ensures (c.loop-term.invariant h d all)
