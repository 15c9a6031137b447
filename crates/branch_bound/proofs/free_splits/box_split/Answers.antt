use Rattle.branch_bound.proofs.free_splits.box_split.Goals as goal

pub returns-in-Some : goal.returns-in-Some
returns-in-Some c = c.in-Some.ensures c.args.road.now c.args.range.now c.widest.ensures
