use Rattle.std.proofs.Common.{FitsSigned, rules, arith, ◌+◌}
use Rattle.std.specs.Prelude.{◌*ℤ◌, ◌-ℤ◌}
use Rattle.std.specs.Int.{w64, w128}
use Rattle.std.proofs.lemmas.Int.{to_z-of_z}
use Rattle.algebra.proofs.Magnitudes.{fits_w128}
use Rattle.road_types.specs.Road.{section}
use Rattle.report.proofs.MassLemmas.{metres_small}
use Rattle.report.proofs.mass.hop_metres.Goals as goal

pub times-requires : goal.times-requires
times-requires c =
    let road = c.args.road.now in
    let h = c.args.hop in
    let a : FitsSigned w64 c.section.result.now.station = search rules in
    let b : FitsSigned w64 c.section-2.result.now.station = search rules in
    let step : FitsSigned w64 road.step = search rules in
    let x : FitsSigned w128 c.from.result = search rules in
    let y : FitsSigned w128 c.from-2.result = search rules in
    let z : FitsSigned w128 c.from-3.result = search rules in
    let steps : FitsSigned w128 c.minus-steps.result = search rules in
    let first = simp to_z-of_z at c.from.ensures in
    let second = simp to_z-of_z at c.from-2.ensures in
    let third = simp to_z-of_z at c.from-3.ensures in
    let difference = simp to_z-of_z at c.minus-steps.ensures in
    let fits = fits_w128 (road.step *ℤ ((section road (h + 1)).station -ℤ (section road h).station)) (omega (arith, metres_small road c.requires.well_formed h c.requires.hop)) in
    simp to_z-of_z (rw (third, difference, first, second, c.section.ensures, c.section-2.ensures) fits)

pub returns-clause-width : goal.returns-clause-width
returns-clause-width c =
    let road = c.args.road.now in
    let h = c.args.hop in
    let a : FitsSigned w64 c.section.result.now.station = search rules in
    let b : FitsSigned w64 c.section-2.result.now.station = search rules in
    let step : FitsSigned w64 road.step = search rules in
    let x : FitsSigned w128 c.from.result = search rules in
    let y : FitsSigned w128 c.from-2.result = search rules in
    let z : FitsSigned w128 c.from-3.result = search rules in
    let steps : FitsSigned w128 c.minus-steps.result = search rules in
    let found : FitsSigned w128 c.times.result = search rules in
    let first = simp to_z-of_z at c.from.ensures in
    let second = simp to_z-of_z at c.from-2.ensures in
    let third = simp to_z-of_z at c.from-3.ensures in
    let difference = simp to_z-of_z at c.minus-steps.ensures in
    let product = simp to_z-of_z at c.times.ensures in
    simp to_z-of_z (rw (product, third, difference, first, second, c.section.ensures, c.section-2.ensures) (metres_small road c.requires.well_formed h c.requires.hop))
