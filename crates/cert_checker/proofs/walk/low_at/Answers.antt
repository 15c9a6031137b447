use Rattle.cert_tree.proofs.LeafLemmas.{on_rows}
use Rattle.cert_checker.proofs.walk.low_at.Goals as goal

pub low_refusal-found-requires-clause-mults : goal.low_refusal-found-requires-clause-mults
low_refusal-found-requires-clause-mults c =
    on_rows c.args.road.now c.args.range.now c.in_ok-milp.milp c.args.mults.now c.in_ok-milp.ensures c.requires.mults
