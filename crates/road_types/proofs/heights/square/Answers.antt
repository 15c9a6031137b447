use Rattle.std.proofs.Common.{FitsSigned, rules, arith, ◌^◌}
use Rattle.std.specs.Int.{w64, w128}
use Rattle.std.proofs.lemmas.Int.{to_z-of_z}
use Rattle.algebra.proofs.Magnitudes.{fits_w128_mul}
use Rattle.road_types.proofs.HeightWidths.{square_width}
use Rattle.road_types.proofs.heights.square.Goals as goal

pub times-requires : goal.times-requires
times-requires c =
    let s : FitsSigned w64 c.args.s = c.ranges.s in
    let wide : FitsSigned w128 c.from.result = search rules in
    let wide-2 : FitsSigned w128 c.from-2.result = search rules in
    let is = simp to_z-of_z at c.from.ensures in
    let is-2 = simp to_z-of_z at c.from-2.ensures in
    simp to_z-of_z (rw (is, is-2) (fits_w128_mul c.args.s c.args.s (2 ^ 17) (2 ^ 17) c.requires c.requires (omega arith)))

pub returns-clause-value : goal.returns-clause-value
returns-clause-value c =
    let s : FitsSigned w64 c.args.s = c.ranges.s in
    let wide : FitsSigned w128 c.from.result = search rules in
    let wide-2 : FitsSigned w128 c.from-2.result = search rules in
    let product : FitsSigned w128 c.times.result = search rules in
    let is = simp to_z-of_z at c.from.ensures in
    let is-2 = simp to_z-of_z at c.from-2.ensures in
    simp to_z-of_z (rw (is, is-2) at (simp to_z-of_z at c.times.ensures))

pub returns-clause-width : goal.returns-clause-width
returns-clause-width c =
    let s : FitsSigned w64 c.args.s = c.ranges.s in
    let wide : FitsSigned w128 c.from.result = search rules in
    let wide-2 : FitsSigned w128 c.from-2.result = search rules in
    let product : FitsSigned w128 c.times.result = search rules in
    let is = simp to_z-of_z at c.from.ensures in
    let is-2 = simp to_z-of_z at c.from-2.ensures in
    let value = rw (is, is-2) at (simp to_z-of_z at c.times.ensures) in
    simp to_z-of_z (rw value (square_width c.args.s c.requires))
