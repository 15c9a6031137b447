use Rattle.road_types.proofs.AcceptedRoad.{IsAccepted-from_fault}
use Rattle.std.proofs.Common.{arith}
use Rattle.report.proofs.WidthsLemmas.{few_hops}
use Rattle.report.proofs.entries.push_right.Goals as goal

pub overflow_add-hop : goal.overflow_add-hop
overflow_add-hop c =
    let few = few_hops c.args.road.now (IsAccepted-from_fault c.args.road.now c.requires.accepted).well_formed c.args.hop c.requires.hop in
    omega (arith, few)
