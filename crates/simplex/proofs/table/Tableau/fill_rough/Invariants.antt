use Rattle.std.proofs.Common.{◌≡◌, length}
use Rattle.std.specs.Prelude.{vec_capacity}
use Rattle.simplex.proofs.table.Tableau.fill_rough.Given as goal

abbrev pub invariant-loop-k : goal.invariant-loop-k
invariant-loop-k g l = (vec_capacity l.rough ≡ vec_capacity l.fn.rough) × (length l.rough.items ≡ l.k)
