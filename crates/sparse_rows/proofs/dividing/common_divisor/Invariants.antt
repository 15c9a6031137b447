use Rattle.sparse_rows.proofs.Common.{IsGathering}
use Rattle.sparse_rows.proofs.dividing.common_divisor.Given as goal

abbrev pub invariant-loop-term : goal.invariant-loop-term
invariant-loop-term g l = IsGathering g.T.Whole.meaning l.terms l.term-index (g.T.Whole.meaning l.divisor)
