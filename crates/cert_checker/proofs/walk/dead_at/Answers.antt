use Rattle.cert_tree.proofs.LeafLemmas.{on_rows}
use Rattle.cert_checker.proofs.walk.dead_at.Goals as goal

pub dead_refusal-found-requires-clause-mults : goal.dead_refusal-found-requires-clause-mults
dead_refusal-found-requires-clause-mults c =
    on_rows c.args.road.now c.args.range.now c.in_ok-milp.milp c.args.mults.now c.in_ok-milp.ensures c.requires.mults
