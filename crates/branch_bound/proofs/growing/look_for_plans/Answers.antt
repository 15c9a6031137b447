use Rattle.std.proofs.Common.{arith}
use Rattle.branch_bound.specs.inside.Grown.{grown_of}
use Rattle.branch_bound.proofs.SearchLemmas.{few_waiting}
use Rattle.branch_bound.proofs.PieceLemmas.{searched_on}
use Rattle.branch_bound.proofs.growing.look_for_plans.Goals as goal

pub waiting_at-requires-clause-count : goal.waiting_at-requires-clause-count
waiting_at-requires-clause-count c = omega (arith, few_waiting (grown_of c.args.search.now.work), c.requires.few)

pub returns-in-Some-clause-search : goal.returns-in-Some-clause-search
returns-in-Some-clause-search c = searched_on c.args.road.now c.args.search.now c.look_near.new.best c.look_near.result c.requires.search c.look_near.ensures
