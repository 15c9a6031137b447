use Rattle.std.proofs.Common.{subst}
use Rattle.road_types.specs.RoadPrograms.{row_count}
use Rattle.cert_tree.specs.Trees.{box_tree_of}
use Rattle.search_trees.specs.inside.LeastPairs.{IsLeastPair}
use Rattle.search_trees.proofs.LeastLemmas.{key_of, least_fraction}
use Rattle.search_trees.proofs.least.bound_of.Goals as goal

pub fraction_of-requires : goal.fraction_of-requires
fraction_of-requires c =
    let h = subst (IsLeastPair c.args.road.now (box_tree_of c.args.tree.now) c.args.range.now) c.in-Some.is c.in_ok-pair.ensures in
    key_of c.args.road.now (box_tree_of c.args.tree.now) c.args.range.now c.in-Some.pair h

pub returns-in-Some : goal.returns-in-Some
returns-in-Some c =
    let h = subst (IsLeastPair c.args.road.now (box_tree_of c.args.tree.now) c.args.range.now) c.in-Some.is c.in_ok-pair.ensures in
    least_fraction c.args.road.now (row_count c.args.road.now) (box_tree_of c.args.tree.now) c.args.range.now c.in-Some.pair c.fraction_of.result c.requires.within h c.fraction_of.ensures
