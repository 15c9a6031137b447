use Rattle.branch_bound.specs.inside.Splitting.{IsBestOf}
use Rattle.branch_bound.proofs.asking.best_height.Given as goal

abbrev pub invariant-loop-before : goal.invariant-loop-before
invariant-loop-before l = IsBestOf l.road l.range l.den l.point l.before l.best
