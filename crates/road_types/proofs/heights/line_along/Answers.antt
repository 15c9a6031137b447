use Rattle.std.proofs.Common.{FitsSigned, rules, arith, ◌^◌, ◌*◌}
use Rattle.std.specs.Prelude.{◌*ℤ◌}
use Rattle.std.specs.Int.{w64, w128}
use Rattle.std.proofs.lemmas.Int.{to_z-of_z}
use Rattle.algebra.proofs.Magnitudes.{fits_w128_mul, fits_w128_add, unsigned_abs_mul_le}
use Rattle.road_types.proofs.HeightWidths.{rise_width}
use Rattle.road_types.proofs.heights.line_along.Goals as goal

pub times-requires : goal.times-requires
times-requires c =
    let s : FitsSigned w64 c.args.s = c.ranges.s in
    let grade : FitsSigned w128 c.args.b = c.ranges.b in
    let wide : FitsSigned w128 c.from.result = search rules in
    let is = simp to_z-of_z at c.from.ensures in
    simp to_z-of_z (rw is (fits_w128_mul c.args.b c.args.s (2 ^ 60) (2 ^ 17) c.requires.b c.requires.s (omega arith)))

pub plus-requires : goal.plus-requires
plus-requires c =
    let s : FitsSigned w64 c.args.s = c.ranges.s in
    let height : FitsSigned w128 c.args.a = c.ranges.a in
    let grade : FitsSigned w128 c.args.b = c.ranges.b in
    let wide : FitsSigned w128 c.from.result = search rules in
    let product : FitsSigned w128 c.times.result = search rules in
    let is = simp to_z-of_z at c.from.ensures in
    let times = rw is at (simp to_z-of_z at c.times.ensures) in
    let width = unsigned_abs_mul_le c.args.b c.args.s (2 ^ 60) (2 ^ 17) c.requires.b c.requires.s in
    simp to_z-of_z (rw times (fits_w128_add c.args.a (c.args.b *ℤ c.args.s) (2 ^ 64) (2 ^ 60 * 2 ^ 17) c.requires.a width (omega arith)))

pub returns-clause-value : goal.returns-clause-value
returns-clause-value c =
    let s : FitsSigned w64 c.args.s = c.ranges.s in
    let height : FitsSigned w128 c.args.a = c.ranges.a in
    let grade : FitsSigned w128 c.args.b = c.ranges.b in
    let wide : FitsSigned w128 c.from.result = search rules in
    let product : FitsSigned w128 c.times.result = search rules in
    let sum : FitsSigned w128 c.plus.result = search rules in
    let is = simp to_z-of_z at c.from.ensures in
    let times = rw is at (simp to_z-of_z at c.times.ensures) in
    simp to_z-of_z (rw times at (simp to_z-of_z at c.plus.ensures))

pub returns-clause-width : goal.returns-clause-width
returns-clause-width c =
    let s : FitsSigned w64 c.args.s = c.ranges.s in
    let height : FitsSigned w128 c.args.a = c.ranges.a in
    let grade : FitsSigned w128 c.args.b = c.ranges.b in
    let wide : FitsSigned w128 c.from.result = search rules in
    let product : FitsSigned w128 c.times.result = search rules in
    let sum : FitsSigned w128 c.plus.result = search rules in
    let is = simp to_z-of_z at c.from.ensures in
    let times = rw is at (simp to_z-of_z at c.times.ensures) in
    let plus = rw times at (simp to_z-of_z at c.plus.ensures) in
    simp to_z-of_z (rw plus (rise_width c.args.a c.args.b c.args.s c.requires.a c.requires.b c.requires.s))
