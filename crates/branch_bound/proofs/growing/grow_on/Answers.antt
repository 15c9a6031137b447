use Rattle.branch_bound.proofs.BudgetLemmas.{nodes_some}
use Rattle.branch_bound.proofs.growing.grow_on.Goals as goal

pub loop-count-init : goal.loop-count-init
loop-count-init c = record {
  search = c.requires.search;
  counted = c.requires.begun;
  within = nodes_some c.args.road.now c.requires.accepted c.node_budget-most.result c.node_budget-most.ensures.value;
}
