use Rattle.std.proofs.Common.{ℕ, ◌≤◌}
use Rattle.sparse_rows.specs.Lines.{IsLine}
use Rattle.sparse_rows.proofs.LinesLemmas.{IsRest}
use Rattle.sparse_rows.proofs.lookup.entry.Given as goal

abbrev pub invariant-loop-term : goal.invariant-loop-term
invariant-loop-term g l = (end : ℕ) → IsLine g.W.Whole.meaning 0 end l.row
    → (from : ℕ) × (IsRest g.W.Whole.meaning l.row l.term-index from end) × (from ≤ l.column)
