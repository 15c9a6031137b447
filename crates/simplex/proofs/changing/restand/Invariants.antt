use Rattle.std.proofs.Common.{◌≡◌, ℕ, length}
use Rattle.sparse_rows.specs.Lines.{IsLine}
use Rattle.simplex.proofs.Swapping.{IsWalked}
use Rattle.simplex.proofs.changing.restand.Given as goal

abbrev pub invariant-loop-term : goal.invariant-loop-term
invariant-loop-term g l = (length l.at_high ≡ length l.fn.at_high)
    × ((end : ℕ) → IsLine g.W.Whole.meaning 0 end l.costs → IsWalked g.W.Whole.meaning l.costs l.columns l.fn.at_high end l.term-index l.at_high)
