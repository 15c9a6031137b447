use Rattle.std.proofs.Common.{◌≤◌, ◌<◌, ℕ, get_or}
use Rattle.std.specs.Prelude.{◌≢◌}
use Rattle.simplex.proofs.ending.place_of.Given as goal

abbrev pub invariant-loop-i : goal.invariant-loop-i
invariant-loop-i l = (k : ℕ) → 1 ≤ k → k < l.i → get_or l.basis k 0 ≢ l.column
