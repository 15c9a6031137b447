use Rattle.std.proofs.Common.{◌≡◌, ◌+◌}
use Rattle.std.specs.Prelude.{vec_capacity}
use Rattle.simplex.specs.inside.Filled.{AreBounds}
use Rattle.simplex.proofs.filling.fill_bounds.Given as goal

abbrev pub invariant-loop-k : goal.invariant-loop-k
invariant-loop-k g l = AreBounds g.W.Whole.meaning l.milp (l.k + 1) l.low.items l.high.items l.has_high.items
    × ((vec_capacity l.low ≡ vec_capacity l.fn.low) × ((vec_capacity l.high ≡ vec_capacity l.fn.high) × (vec_capacity l.has_high ≡ vec_capacity l.fn.has_high)))
