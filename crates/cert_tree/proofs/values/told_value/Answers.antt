use Rattle.std.proofs.Common.{arith}
use Rattle.programs.specs.Programs.{row_count}
use Rattle.cert_tree.proofs.LeafLemmas.{rises_by_row, are_multipliers}
use Rattle.cert_tree.proofs.values.told_value.Goals as goal

pub spread-requires : goal.spread-requires
spread-requires c = rw c.rows.ensures.count (rises_by_row (row_count c.args.milp.now) 0 c.args.mults.now (omega arith) c.requires.mults)

pub leaf_value-requires-clause-mults : goal.leaf_value-requires-clause-mults
leaf_value-requires-clause-mults c =
    rw (c.as_slice.ensures.value, c.in_ok-spread.ensures, c.rows.ensures.count) (are_multipliers c.args.milp.now c.args.mults.now c.requires.mults)
