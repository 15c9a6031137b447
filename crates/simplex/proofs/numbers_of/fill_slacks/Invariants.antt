use Rattle.std.proofs.Common.{◌≡◌, ℕ, length}
use Rattle.std.specs.Prelude.{vec_capacity}
use Rattle.sparse_rows.specs.Lines.{IsLine, entry_of}
use Rattle.simplex.specs.inside.Slacks.{AreSlacks}
use Rattle.simplex.proofs.numbers_of.fill_slacks.Given as goal

abbrev pub invariant-loop-k : goal.invariant-loop-k
invariant-loop-k g l = (vec_capacity l.list ≡ vec_capacity l.fn.list) × ((length l.list.items ≡ l.k)
    × ((end : ℕ) → IsLine g.W.Whole.meaning 0 end l.row → AreSlacks l.columns l.k l.turns (entry_of g.W.Whole.meaning l.row) l.list.items))
