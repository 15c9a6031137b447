use Rattle.branch_bound.specs.inside.Proving.{IsGreatestOf}
use Rattle.branch_bound.proofs.proving.greatest_magnitude.Given as goal

abbrev pub invariant-loop-before : goal.invariant-loop-before
invariant-loop-before l = IsGreatestOf l.numbers l.before l.greatest
