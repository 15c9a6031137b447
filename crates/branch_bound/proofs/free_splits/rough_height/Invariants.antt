use Rattle.branch_bound.specs.inside.FreeSplits.{IsFreeHeight}
use Rattle.branch_bound.proofs.free_splits.rough_height.Given as goal

abbrev pub invariant-loop-before : goal.invariant-loop-before
invariant-loop-before l = IsFreeHeight l.road l.range l.best
