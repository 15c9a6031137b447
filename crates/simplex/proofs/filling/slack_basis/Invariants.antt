use Rattle.std.proofs.Common.{◌≡◌, ◌+◌, ◌≤◌, ℕ, length, get_or}
use Rattle.std.specs.Prelude.{vec_capacity}
use Rattle.simplex.proofs.filling.slack_basis.Given as goal

abbrev pub invariant-loop-k : goal.invariant-loop-k
invariant-loop-k l = (length l.basis.items ≡ l.k + 1) × ((vec_capacity l.basis ≡ l.rows + 1) × ((i : ℕ) → 1 ≤ i → i ≤ l.k → get_or l.basis.items i 0 ≡ l.columns + i))
