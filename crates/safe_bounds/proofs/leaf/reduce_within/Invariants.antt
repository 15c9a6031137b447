use Rattle.safe_bounds.specs.inside.Drawn.{AreTaken}
use Rattle.safe_bounds.proofs.leaf.reduce_within.Given as goal

abbrev pub invariant-loop-place : goal.invariant-loop-place
invariant-loop-place l = AreTaken l.milp l.scale l.mults l.place l.reduced
