use Rattle.std.proofs.Common.{◌≡◌, length}
use Rattle.simplex.proofs.Preparing.{ArePrepared}
use Rattle.simplex.proofs.prepare.prepare.Given as goal

abbrev pub invariant-loop-k : goal.invariant-loop-k
invariant-loop-k g l =
    ArePrepared g.W.Whole.meaning l.fn.row l.fn.col l.fn.cells (length l.fn.marks) l.k l.fn.lines.rows l.lines.rows l.marks
    × ((length l.marks ≡ length l.fn.marks) × ((l.lines.width ≡ l.fn.lines.width) × (l.cells ≡ l.fn.cells)))
