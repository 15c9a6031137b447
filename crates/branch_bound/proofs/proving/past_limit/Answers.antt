use Rattle.std.proofs.Common.{FitsSigned, arith}
use Rattle.std.specs.Int.{w128}
use Rattle.std.proofs.lemmas.Int.{ints, to_z-of_z}
use Rattle.branch_bound.proofs.WholeLemmas.{none_past}
use Rattle.branch_bound.proofs.proving.past_limit.Goals as goal

pub returns-clause-narrow : goal.returns-clause-narrow
returns-clause-narrow c =
    let scale_fits : FitsSigned w128 c.args.scale = c.ranges.scale in
    let greatest_fits : FitsSigned w128 c.greatest_magnitude-greatest.result = record { sfits = c.greatest_magnitude-greatest.type_inv } in
    let scale = simp to_z-of_z at c.if-scale-gt-GREATEST_SCALE.false in
    let greatest = simp to_z-of_z at c.if-greatest-gt-GREATEST_SCALE.false in
    none_past c.args.scale c.args.mults.now c.greatest_magnitude-greatest.result c.requires.scale
    (omega (arith, ints, scale)) c.greatest_magnitude-greatest.ensures (omega (arith, ints, greatest))
