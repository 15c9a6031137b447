use Rattle.std.proofs.Common.{FitsSigned, rules, arith, ◌^◌}
use Rattle.std.specs.Int.{w64, w128}
use Rattle.std.proofs.lemmas.Int.{to_z-of_z}
use Rattle.algebra.proofs.Magnitudes.{fits_w128_add}
use Rattle.road_types.proofs.HeightWidths.{height_width}
use Rattle.road_types.proofs.heights.height_along.Goals as goal

pub plus-requires : goal.plus-requires
plus-requires c =
    let line : FitsSigned w128 c.line_along.result = search rules in
    let bend : FitsSigned w128 c.bend_along.result = search rules in
    simp to_z-of_z (fits_w128_add c.line_along.result c.bend_along.result (2 ^ 78) (2 ^ 94) c.line_along.ensures.width c.bend_along.ensures.width (omega arith))

pub returns-clause-value : goal.returns-clause-value
returns-clause-value c =
    let s : FitsSigned w64 c.args.s = c.ranges.s in
    let height : FitsSigned w128 c.args.a = c.ranges.a in
    let grade : FitsSigned w128 c.args.b = c.ranges.b in
    let curve : FitsSigned w128 c.args.c = c.ranges.c in
    let line : FitsSigned w128 c.line_along.result = search rules in
    let bend : FitsSigned w128 c.bend_along.result = search rules in
    let sum : FitsSigned w128 c.plus.result = search rules in
    let line_is = simp to_z-of_z at c.line_along.ensures.value in
    let bend_is = simp to_z-of_z at c.bend_along.ensures.value in
    simp to_z-of_z (rw (line_is, bend_is) at (simp to_z-of_z at c.plus.ensures))

pub returns-clause-width : goal.returns-clause-width
returns-clause-width c =
    let s : FitsSigned w64 c.args.s = c.ranges.s in
    let height : FitsSigned w128 c.args.a = c.ranges.a in
    let grade : FitsSigned w128 c.args.b = c.ranges.b in
    let curve : FitsSigned w128 c.args.c = c.ranges.c in
    let line : FitsSigned w128 c.line_along.result = search rules in
    let bend : FitsSigned w128 c.bend_along.result = search rules in
    let sum : FitsSigned w128 c.plus.result = search rules in
    let line_is = simp to_z-of_z at c.line_along.ensures.value in
    let bend_is = simp to_z-of_z at c.bend_along.ensures.value in
    let value = rw (line_is, bend_is) at (simp to_z-of_z at c.plus.ensures) in
    simp to_z-of_z (rw value (height_width c.args.a c.args.b c.args.c c.args.s c.requires.a c.requires.b c.requires.c c.requires.s))
