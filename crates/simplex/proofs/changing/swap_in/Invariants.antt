use Rattle.std.proofs.Common.{◌≡◌, length}
use Rattle.simplex.proofs.Swapping.{AreSwapped}
use Rattle.simplex.proofs.changing.swap_in.Given as goal

abbrev pub invariant-loop-k : goal.invariant-loop-k
invariant-loop-k g l = AreSwapped (length l.marks) l.k l.fn.lines.rows l.lines.rows l.marks × (l.lines.width ≡ l.fn.lines.width)
