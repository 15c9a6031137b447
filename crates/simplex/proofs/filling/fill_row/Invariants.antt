use Rattle.std.proofs.Common.{◌≡◌, take}
use Rattle.std.specs.Prelude.{vec_capacity, ℤ, pos}
use Rattle.sparse_rows.proofs.Common.{AreQuotients}
use Rattle.simplex.proofs.filling.fill_row.Given as goal

abbrev pub invariant-loop-term : goal.invariant-loop-term
invariant-loop-term g l = AreQuotients (λ (z : ℤ). z) g.W.Whole.meaning (pos 1) (take l.term-index l.term-items) l.line.items × (vec_capacity l.line ≡ vec_capacity l.fn.line)
