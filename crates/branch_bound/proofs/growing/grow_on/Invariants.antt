use Rattle.std.proofs.Common.{◌≡◌, ◌-◌, ◌≤◌}
use Rattle.branch_bound.specs.inside.Grown.{grown_of, node_total}
use Rattle.branch_bound.specs.inside.Searches.{IsSearch}
use Rattle.branch_bound.proofs.growing.grow_on.Given as goal

abbrev pub invariant-loop-count : goal.invariant-loop-count
invariant-loop-count l = record {
  search : IsSearch l.road l.search;
  counted : node_total (grown_of l.search.work) ≡ l.count;
  within : l.count ≤ l.most;
}

abbrev pub decreases-loop-count : goal.decreases-loop-count
decreases-loop-count l = l.most - l.count
