use Rattle.std.proofs.Common.{rules, FitsSigned}
use Rattle.std.specs.Int.{w64, w128}
use Rattle.std.proofs.lemmas.Int.{to_z-of_z}
use Rattle.plan_rules.proofs.HeightWidths.{small_piece}
use Rattle.plan_rules.proofs.heights.height_on.Goals as goal

pub piece_height-requires-clause-small : goal.piece_height-requires-clause-small
piece_height-requires-clause-small c =
    rw c.piece_at.ensures (small_piece c.args.road.now c.args.plan.now c.requires.well_formed c.requires.fits c.requires.limited c.segment_of-segment.result c.segment_of-segment.ensures.inside.number)

pub returns-clause-value : goal.returns-clause-value
returns-clause-value c =
    let a : FitsSigned w128 c.piece_at.result.a = search rules in
    let b : FitsSigned w128 c.piece_at.result.b = search rules in
    let d : FitsSigned w128 c.piece_at.result.c = search rules in
    let along : FitsSigned w64 c.steps_from.result = search rules in
    let height : FitsSigned w128 c.piece_height.result = search rules in
    let station = c.ranges.station in
    simp to_z-of_z (rw (simp to_z-of_z at c.steps_from.ensures.value, c.piece_at.ensures, simp to_z-of_z at c.segment_of-segment.ensures.value) at (simp to_z-of_z at c.piece_height.ensures.value))
