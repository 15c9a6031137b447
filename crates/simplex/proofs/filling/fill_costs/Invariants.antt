use Rattle.std.proofs.Common.{◌≡◌, ◌+◌}
use Rattle.std.specs.Prelude.{vec_capacity}
use Rattle.sparse_rows.specs.Lines.{IsFilled}
use Rattle.simplex.specs.Starts.{cost_entry}
use Rattle.simplex.proofs.filling.fill_costs.Given as goal

abbrev pub invariant-loop-k : goal.invariant-loop-k
invariant-loop-k g l = IsFilled g.W.Whole.meaning l.line.items (l.k + 1) (cost_entry l.milp) × (vec_capacity l.line ≡ vec_capacity l.fn.line)
