use Rattle.branch_bound.proofs.FreeLemmas.{counted_of}
use Rattle.branch_bound.proofs.free_splits.number_of.Goals as goal

pub column_of-requires : goal.column_of-requires
column_of-requires c = counted_of c.args.road.now c.requires.accepted
