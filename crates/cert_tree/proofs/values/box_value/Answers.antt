use Rattle.cert_tree.proofs.LeafLemmas.{on_rows}
use Rattle.cert_tree.proofs.values.box_value.Goals as goal

pub told_value-requires-clause-mults : goal.told_value-requires-clause-mults
told_value-requires-clause-mults c =
    on_rows c.args.road.now c.args.range.now _ c.args.mults.now c.in_ok-milp.ensures c.requires.mults
