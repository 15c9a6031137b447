use Rattle.std.specs.Prelude.{FitsSigned}
use Rattle.std.specs.Int.{w128}
use Rattle.std.proofs.lemmas.Int.{to_z-of_z}
use Rattle.bound_tools.proofs.ClimbLemmas.{raised_down}
use Rattle.bound_tools.proofs.rows.raise.Goals as goal

pub returns-clause-raised : goal.returns-clause-raised
returns-clause-raised c =
    let scale : FitsSigned w128 c.args.scale = c.ranges.scale in
    let up = simp to_z-of_z at c.if-climb.ensures.tried in
    let down = simp to_z-of_z at c.climb-2.ensures.tried in
    raised_down c.args.milp.now c.args.scale c.args.i c.climb-2.result c.args.mults.now c.climb.new.mults c.climb-2.new.mults up down
