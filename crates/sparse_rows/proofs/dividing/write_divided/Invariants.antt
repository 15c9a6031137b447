use Rattle.std.proofs.Common.{◌≡◌, take}
use Rattle.sparse_rows.proofs.Common.{AreQuotients}
use Rattle.sparse_rows.proofs.dividing.write_divided.Given as goal

abbrev pub invariant-loop-term : goal.invariant-loop-term
invariant-loop-term g l =
    (l.row.room ≡ l.fn.row.room)
    × AreQuotients g.T.Whole.meaning g.W.Whole.meaning (g.T.Whole.meaning l.divisor) (take l.term-index l.terms) l.row.terms
