use Rattle.std.proofs.Common.{◌≡◌}
use Rattle.std.specs.Prelude.{◌+ℤ◌}
use Rattle.algebra.specs.Sums.{sum_to}
use Rattle.safe_bounds.specs.Values.{column_value, rights_value}
use Rattle.safe_bounds.proofs.leaf.value_over.Given as goal

abbrev pub invariant-loop-place : goal.invariant-loop-place
invariant-loop-place l =
    l.value ≡ rights_value l.milp.rows l.mults +ℤ sum_to (column_value l.milp l.scale l.mults) l.place
