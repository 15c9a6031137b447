use Rattle.std.proofs.Common.{length}
use Rattle.simplex.proofs.Ratios.{IsBest}
use Rattle.simplex.proofs.ratio_test.entering_column.Given as goal

abbrev pub invariant-loop-term : goal.invariant-loop-term
invariant-loop-term g l = IsBest g.W.Whole.meaning l.row l.costs l.basic l.low l.high l.has_high l.at_high l.broken (length l.low) l.term-index l.best (g.W.Whole.meaning l.best_cost) (g.W.Whole.meaning l.best_entry)
