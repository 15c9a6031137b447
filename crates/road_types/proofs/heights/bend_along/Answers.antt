use Rattle.std.proofs.Common.{FitsSigned, rules, arith, ◌^◌}
use Rattle.std.specs.Prelude.{◌*ℤ◌}
use Rattle.std.specs.Int.{w64, w128}
use Rattle.std.proofs.lemmas.Int.{to_z-of_z}
use Rattle.algebra.proofs.Magnitudes.{fits_w128_mul}
use Rattle.road_types.proofs.HeightWidths.{square_width, bend_width}
use Rattle.road_types.proofs.heights.bend_along.Goals as goal

pub times-requires : goal.times-requires
times-requires c =
    let s : FitsSigned w64 c.args.s = c.ranges.s in
    let curve : FitsSigned w128 c.args.c = c.ranges.c in
    let square : FitsSigned w128 c.square.result = search rules in
    let value = simp to_z-of_z at c.square.ensures.value in
    simp to_z-of_z (rw value (fits_w128_mul c.args.c (c.args.s *ℤ c.args.s) (2 ^ 60) (2 ^ 34) c.requires.c (square_width c.args.s c.requires.s) (omega arith)))

pub returns-clause-value : goal.returns-clause-value
returns-clause-value c =
    let s : FitsSigned w64 c.args.s = c.ranges.s in
    let curve : FitsSigned w128 c.args.c = c.ranges.c in
    let square : FitsSigned w128 c.square.result = search rules in
    let product : FitsSigned w128 c.times.result = search rules in
    let value = simp to_z-of_z at c.square.ensures.value in
    simp to_z-of_z (rw value at (simp to_z-of_z at c.times.ensures))

pub returns-clause-width : goal.returns-clause-width
returns-clause-width c =
    let s : FitsSigned w64 c.args.s = c.ranges.s in
    let curve : FitsSigned w128 c.args.c = c.ranges.c in
    let square : FitsSigned w128 c.square.result = search rules in
    let product : FitsSigned w128 c.times.result = search rules in
    let value = simp to_z-of_z at c.square.ensures.value in
    let times = rw value at (simp to_z-of_z at c.times.ensures) in
    simp to_z-of_z (rw times (bend_width c.args.c c.args.s c.requires.c c.requires.s))
