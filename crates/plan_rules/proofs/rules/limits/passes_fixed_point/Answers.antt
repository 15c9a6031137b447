use Rattle.std.proofs.Common.{rules, FitsSigned}
use Rattle.std.specs.Int.{w64, w128}
use Rattle.std.proofs.lemmas.Int.{to_z-of_z}
use Rattle.plan_rules.proofs.rules.limits.passes_fixed_point.Goals as goal

pub returns : goal.returns
returns c =
    let den : FitsSigned w128 c.args.plan.now.den = search rules in
    let low : FitsSigned w64 c.fixed_point-fixed.result.low = search rules in
    let high : FitsSigned w64 c.fixed_point-fixed.result.high = search rules in
    let station : FitsSigned w64 c.fixed_point-fixed.result.station = search rules in
    let height : FitsSigned w128 c.height_on.result = search rules in
    rw (simp to_z-of_z at c.height_on.ensures.value, c.fixed_point-fixed.ensures) at (simp to_z-of_z at c.is_within.ensures)

pub height_on-requires-clause-station : goal.height_on-requires-clause-station
height_on-requires-clause-station c =
    let station : FitsSigned w64 c.fixed_point-fixed.result.station = search rules in
    simp to_z-of_z (rw c.fixed_point-fixed.ensures (c.requires.well_formed.fixed c.args.number c.requires.number).on_knots)

pub is_within-requires : goal.is_within-requires
is_within-requires c =
    let den : FitsSigned w128 c.args.plan.now.den = search rules in
    record { den = simp to_z-of_z c.requires.fits.den }
