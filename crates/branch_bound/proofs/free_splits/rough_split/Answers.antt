use Rattle.branch_bound.proofs.free_splits.rough_split.Goals as goal

pub returns-in-None : goal.returns-in-None
returns-in-None c = c.height_of.ensures c.args.road.now c.args.range.now c.rough_height.ensures
