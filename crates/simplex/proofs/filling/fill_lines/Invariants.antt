use Rattle.std.proofs.Common.{◌≡◌, ◌+◌, length}
use Rattle.std.specs.Prelude.{vec_capacity}
use Rattle.simplex.specs.inside.Filled.{AreLines}
use Rattle.simplex.proofs.filling.fill_lines.Given as goal

abbrev pub invariant-loop-k : goal.invariant-loop-k
invariant-loop-k g l = AreLines g.W.Whole.meaning l.milp l.k l.lines.rows × ((length l.lines.rows ≡ l.k + 1) × ((l.lines.room ≡ l.fn.lines.room) × ((l.lines.width ≡ l.fn.lines.width) × (vec_capacity l.line ≡ vec_capacity l.fn.line))))

abbrev pub invariant-loop-spare : goal.invariant-loop-spare
invariant-loop-spare g l = AreLines g.W.Whole.meaning l.milp l.rows l.lines.rows × ((length l.lines.rows ≡ l.rows + 1 + l._spare) × ((l.lines.room ≡ l.fn.lines.room) × (l.lines.width ≡ l.fn.lines.width)))
