use Rattle.branch_bound.specs.inside.Splitting.{IsInnerBreakpoint}
use Rattle.branch_bound.proofs.splitting.best_cut.Given as goal

abbrev pub invariant-loop-slab : goal.invariant-loop-slab
invariant-loop-slab l = IsInnerBreakpoint l.section l.range l.best.at
