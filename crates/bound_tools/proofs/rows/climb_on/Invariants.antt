use Rattle.std.proofs.Common.{◌≡◌}
use Rattle.bound_tools.specs.inside.Climbs.{IsClimbing}
use Rattle.bound_tools.proofs.rows.climb_on.Given as goal

abbrev pub invariant-loop-turn : goal.invariant-loop-turn
invariant-loop-turn l = IsClimbing l.milp l.scale l.initial.mults l.mults l.value l.change × (l.scratch ≡ l.initial.scratch)
