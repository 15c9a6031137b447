use Rattle.std.proofs.Common.{◌≡◌, take}
use Rattle.safe_bounds.specs.Sparse.{dense}
use Rattle.cert_tree.proofs.values.spread.Given as goal

abbrev pub invariant-loop-place : goal.invariant-loop-place
invariant-loop-place l = l.spread.items ≡ dense l.rows (take l.place l.mults)
