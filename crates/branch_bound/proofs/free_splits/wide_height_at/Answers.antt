use Rattle.branch_bound.proofs.FreeLemmas.{tables_of_section}
use Rattle.branch_bound.proofs.free_splits.wide_height_at.Goals as goal

pub inner_at-requires-clause-tables : goal.inner_at-requires-clause-tables
inner_at-requires-clause-tables c = tables_of_section c.args.road.now c.args.number c.requires.accepted c.requires.number
