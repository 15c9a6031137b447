use Rattle.cert_tree.specs.Trees.{box_tree_of}
use Rattle.carried_bounds.proofs.TreeLaws.{splits_stay, widths_stay}
use Rattle.carried_bounds.proofs.CarryLaws.{bounded_found}
use Rattle.carried_bounds.proofs.trees.bounded_tree.Goals as goal

pub carried_tree-requires-clause-splits : goal.carried_tree-requires-clause-splits
carried_tree-requires-clause-splits c = rw c.in_ok-root.ensures.value c.requires.splits

pub carried_tree-requires-clause-proving : goal.carried_tree-requires-clause-proving
carried_tree-requires-clause-proving c = rw c.in_ok-root.ensures.value c.requires.proving

pub with_bound-requires-clause-splits : goal.with_bound-requires-clause-splits
with_bound-requires-clause-splits c =
    splits_stay c.args.road.now (box_tree_of c.args.tree.now) (box_tree_of c.in_ok-carried.carried) c.in_ok-root.root (rw c.in_ok-root.ensures.value c.requires.splits) c.in_ok-carried.ensures

pub with_bound-requires-clause-within : goal.with_bound-requires-clause-within
with_bound-requires-clause-within c =
    widths_stay c.args.road.now (box_tree_of c.args.tree.now) (box_tree_of c.in_ok-carried.carried) c.in_ok-root.root c.requires.within c.in_ok-carried.ensures

pub returns : goal.returns
returns c =
    bounded_found c.args.road.now (box_tree_of c.args.tree.now) c.in_ok-carried.carried c.in_ok-root.root c.with_bound.result c.in_ok-root.ensures.value c.in_ok-carried.ensures
    c.with_bound.ensures.tree c.with_bound.ensures.bound
