use Rattle.std.proofs.Common.{◌≡◌}
use Rattle.safe_bounds.specs.Values.{value_of}
use Rattle.bound_tools.specs.Ascents.{AreAllowed}
use Rattle.bound_tools.specs.inside.Climbs.{HasRisenBy}
use Rattle.bound_tools.proofs.ascent.ascend_from.Given as goal

abbrev pub invariant-loop-round : goal.invariant-loop-round
invariant-loop-round l =
    (AreAllowed l.milp l.mults × HasRisenBy l.milp l.scale l._round l.initial.mults l.mults)
    × ((l.value ≡ value_of l.milp l.scale l.mults) × (l.scratch ≡ l.initial.scratch))
