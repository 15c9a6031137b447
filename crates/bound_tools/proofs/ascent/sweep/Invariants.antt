use Rattle.std.proofs.Common.{◌≡◌}
use Rattle.safe_bounds.specs.Values.{value_of}
use Rattle.bound_tools.specs.Ascents.{AreAllowed}
use Rattle.bound_tools.specs.inside.Climbs.{IsSwept}
use Rattle.bound_tools.proofs.ascent.sweep.Given as goal

abbrev pub invariant-loop-place : goal.invariant-loop-place
invariant-loop-place l =
    (AreAllowed l.milp l.mults × IsSwept l.milp l.scale l.place l.raised l.initial.mults l.mults)
    × ((l.value ≡ value_of l.milp l.scale l.mults) × (l.scratch ≡ l.initial.scratch))
