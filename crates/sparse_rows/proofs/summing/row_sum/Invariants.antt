use Rattle.std.proofs.Common.{length}
use Rattle.sparse_rows.proofs.SumsLemmas.{IsSummed}
use Rattle.sparse_rows.proofs.summing.row_sum.Given as goal

abbrev pub invariant-loop-term : goal.invariant-loop-term
invariant-loop-term g l = IsSummed g.W.Whole.meaning l.row l.without l.low l.high l.at_high (length l.low) l.term-index (g.T.Whole.meaning l.total)
