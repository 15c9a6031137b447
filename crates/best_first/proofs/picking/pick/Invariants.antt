use Rattle.best_first.specs.inside.Leading.{IsFirstLeastOf}
use Rattle.best_first.proofs.picking.pick.Given as goal

abbrev pub invariant-loop-place : goal.invariant-loop-place
invariant-loop-place l = IsFirstLeastOf l.leaves l.place l.least
