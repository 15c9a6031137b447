use Rattle.std.proofs.Common.{◌≡◌, replicate}
use Rattle.trial_roads.specs.TrialRoads.{trial_hop}
use Rattle.trial_roads.proofs.road.hops.Given as goal

abbrev pub invariant-loop-hop : goal.invariant-loop-hop
invariant-loop-hop l = l.hops.items ≡ replicate l._hop trial_hop
