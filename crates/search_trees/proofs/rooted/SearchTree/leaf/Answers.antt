use Rattle.search_trees.proofs.RootedLemmas.{leaf_narrow}
use Rattle.search_trees.proofs.rooted.SearchTree.leaf.Goals as goal

pub invariant_of-result : goal.invariant_of-result
invariant_of-result c = leaf_narrow c.args.road.now c.args.leaf c.requires.leaf
