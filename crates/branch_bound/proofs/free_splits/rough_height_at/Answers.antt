use Rattle.branch_bound.proofs.FreeLemmas.{tables_of_section}
use Rattle.branch_bound.proofs.free_splits.rough_height_at.Goals as goal

pub best_at-requires-clause-tables : goal.best_at-requires-clause-tables
best_at-requires-clause-tables c = tables_of_section c.args.road.now c.args.number c.requires.accepted c.requires.number
