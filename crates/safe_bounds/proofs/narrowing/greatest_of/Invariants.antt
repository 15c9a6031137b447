use Rattle.std.proofs.Common.{◌≡◌, max, drop}
use Rattle.safe_bounds.specs.inside.Magnitudes.{greatest_magnitude}
use Rattle.safe_bounds.proofs.narrowing.greatest_of.Given as goal

abbrev pub invariant-loop-mult : goal.invariant-loop-mult
invariant-loop-mult l = max l.greatest (greatest_magnitude (drop l.mult-index l.mults)) ≡ greatest_magnitude l.mults
