use Rattle.std.proofs.Common.{ℕ, ◌/◌, ◌^◌, ◌<◌}
use Rattle.algebra.specs.Scale.{greatest_scale}
use Rattle.safe_bounds.proofs.narrowing.bits_above.Given as goal

abbrev pub invariant-loop-bits : goal.invariant-loop-bits
invariant-loop-bits l = (fewer : ℕ) → fewer < l.bits → greatest_scale < l.magnitude / 2 ^ fewer
