use Rattle.std.proofs.Common.{◌≡◌, ◌<◌, ◌^◌}
use Rattle.algebra.specs.Lists.{list_to}
use Rattle.trial_roads.specs.TrialRoads.{state_behind, trial_section}
use Rattle.trial_roads.proofs.road.sections.Given as goal

-- the sections so far, and the state behind their draws
abbrev pub invariant-loop-before : goal.invariant-loop-before
invariant-loop-before l =
    (l.sections.items ≡ list_to (trial_section l.number) l.before)
    × ((l.draws.state ≡ state_behind l.number l.before) × (l.draws.state < 2 ^ 31))
