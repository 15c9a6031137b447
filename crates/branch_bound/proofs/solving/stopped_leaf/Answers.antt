use Rattle.std.proofs.Common.{rules, FitsSigned}
use Rattle.std.specs.Int.{w128}
use Rattle.std.proofs.lemmas.Int.{to_z-of_z}
use Rattle.branch_bound.specs.inside.Proving.{IsProvedOn}
use Rattle.branch_bound.proofs.solving.stopped_leaf.Goals as goal

pub returns : goal.returns
returns c =
    let scale : FitsSigned w128 c.args.stop.scale = search rules in
    let proved_on : IsProvedOn c.args.milp.now c.args.stop.scale c.args.stop.mults.items c.in_ok-proved.proved = simp to_z-of_z at c.in_ok-proved.ensures in
    record {
      proved = c.in_ok-proved.proved;
      is_stopped = c.stop_of.ensures c.args.road.now c.split_at-split.ensures;
      proved_on = proved_on;
    }
