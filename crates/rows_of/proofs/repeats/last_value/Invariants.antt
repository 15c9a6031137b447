use Rattle.std.proofs.Common.{◌≤◌}
use Rattle.programs.specs.Programs.{column_count}
use Rattle.rows_of.proofs.repeats.last_value.Given as goal

abbrev pub invariant-loop-scale : goal.invariant-loop-scale
invariant-loop-scale l = column_count l.milp ≤ l.scratch
