use Rattle.std.proofs.Common.{◌≡◌, length}
use Rattle.std.specs.Prelude.{pos, vec_capacity}
use Rattle.algebra.specs.Lists.{list_to}
use Rattle.simplex.proofs.solving.fill_zeros.Given as goal

abbrev pub invariant-loop-row : goal.invariant-loop-row
invariant-loop-row l = (vec_capacity l.list ≡ vec_capacity l.fn.list) × (length l.list.items ≡ l._row) × (l.list.items ≡ list_to (λ _. pos 0) l._row)
