use Rattle.std.specs.Prelude.{ℤ, ◌*ℤ◌}
use Rattle.std.specs.List.{All}
use Rattle.numbers.specs.Divisors.{Divides}
use Rattle.sparse_rows.proofs.dividing.least_magnitude.Given as goal

abbrev pub invariant-loop-term : goal.invariant-loop-term
invariant-loop-term g l = (h d : ℤ) → All (λ t. Divides d (h *ℤ g.T.Whole.meaning t.value)) l.terms → Divides d (h *ℤ g.T.Whole.meaning l.least)
