use Rattle.std.proofs.Common.{FitsSigned, rules, arith}
use Rattle.std.specs.Int.{w64, w128}
use Rattle.std.proofs.lemmas.Int.{ints, to_z-of_z}
use Rattle.plan_rules.proofs.heights.offset_at.Goals as goal

pub minus-requires : goal.minus-requires
minus-requires c =
    let height : FitsSigned w128 c.height_on.result = search rules in
    let ground : FitsSigned w128 c.ground_over.result = search rules in
    omega (arith, ints, c.height_on.ensures.width, c.ground_over.ensures.width)

pub returns : goal.returns
returns c =
    let station : FitsSigned w64 c.section-section.result.now.station = search rules in
    let den : FitsSigned w128 c.args.plan.now.den = search rules in
    let height : FitsSigned w128 c.height_on.result = search rules in
    let ground : FitsSigned w128 c.ground_over.result = search rules in
    let offset : FitsSigned w128 c.minus.result = search rules in
    let above = rw (simp to_z-of_z at c.height_on.ensures.value, simp to_z-of_z at c.ground_over.ensures.value, c.section-section.ensures) at (simp to_z-of_z at c.minus.ensures) in
    record { value = simp to_z-of_z above }

pub ground_over-requires-clause-ground : goal.ground_over-requires-clause-ground
ground_over-requires-clause-ground c = rw c.section-section.ensures (c.requires.well_formed.sections c.args.section c.requires.section).height_of_ground

pub height_on-requires-clause-station : goal.height_on-requires-clause-station
height_on-requires-clause-station c =
    let station : FitsSigned w64 c.section-section.result.now.station = search rules in
    simp to_z-of_z (rw c.section-section.ensures (c.requires.well_formed.sections c.args.section c.requires.section).on_knots)

pub ground_over-requires-clause-den : goal.ground_over-requires-clause-den
ground_over-requires-clause-den c =
    let den : FitsSigned w128 c.args.plan.now.den = search rules in
    simp to_z-of_z c.requires.fits.den
