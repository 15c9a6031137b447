use Rattle.std.specs.Prelude.{FitsSigned}
use Rattle.std.specs.Int.{w128}
use Rattle.std.proofs.lemmas.Int.{to_z-of_z}
use Rattle.cert_tree.proofs.LeafLemmas.{on_rows}
use Rattle.carried_bounds.proofs.LeafLaws.{signed_on, carried_found}
use Rattle.carried_bounds.proofs.leaves.carried_mults.Goals as goal

pub raised_mults-requires-clause-mults : goal.raised_mults-requires-clause-mults
raised_mults-requires-clause-mults c = on_rows c.args.road.now c.args.range.now c.in_ok-milp.milp c.args.mults.now c.in_ok-milp.ensures c.requires.mults

pub raised_mults-requires-clause-signs : goal.raised_mults-requires-clause-signs
raised_mults-requires-clause-signs c = signed_on c.args.road.now c.args.range.now c.in_ok-milp.milp c.args.mults.now c.in_ok-milp.ensures c.requires.signed

pub returns : goal.returns
returns c =
    let scale : FitsSigned w128 c.args.scale = c.ranges.scale in
    carried_found c.args.road.now c.args.range.now c.in_ok-milp.milp c.args.scale c.args.mults.now c.raised_mults.result c.in_ok-milp.ensures (simp to_z-of_z at c.raised_mults.ensures)
