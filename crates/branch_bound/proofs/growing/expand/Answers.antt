use Rattle.std.proofs.Common.{arith, refl}
use Rattle.branch_bound.specs.inside.Grown.{grown_of}
use Rattle.branch_bound.proofs.SearchLemmas.{few_waiting, search_after, total_after}
use Rattle.branch_bound.proofs.growing.expand.Goals as goal

pub part_leaf-requires : goal.part_leaf-requires
part_leaf-requires c = omega (arith, few_waiting (grown_of c.args.search.now.work), c.requires.few)

pub returns-clause-search : goal.returns-clause-search
returns-clause-search c =
    search_after c.args.road.now c.args.search.now _ c.args.at c.in_ok-first.first c.in_ok-first.second _
    c.requires.search c.requires.next c.in_ok-first.ensures c.in_ok-one.ensures (record { best_is = refl; work_is = c.part_leaf.ensures })

pub returns-clause-nodes : goal.returns-clause-nodes
returns-clause-nodes c =
    total_after c.args.road.now c.args.search.now _ c.args.at c.in_ok-first.first c.in_ok-first.second _
    c.requires.search c.requires.next c.in_ok-first.ensures c.in_ok-one.ensures (record { best_is = refl; work_is = c.part_leaf.ensures })
