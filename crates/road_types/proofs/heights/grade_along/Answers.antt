use Rattle.std.proofs.Common.{FitsSigned, rules, arith, ◌^◌, ◌*◌, ◌≤◌}
use Rattle.std.specs.Prelude.{ℤ, pos, ◌*ℤ◌, unsigned_abs}
use Rattle.std.specs.Int.{w64, w128}
use Rattle.std.proofs.lemmas.Int.{ints, to_z-of_z}
use Rattle.algebra.proofs.Magnitudes.{fits_w128_mul, fits_w128_add, unsigned_abs_mul_le}
use Rattle.road_types.proofs.heights.grade_along.Goals as goal

twice_width : (b : ℤ) → unsigned_abs b ≤ 2 ^ 60 → unsigned_abs (pos 2 *ℤ b) ≤ 2 ^ 61
twice_width b p = omega (arith, ints)

pub times-requires : goal.times-requires
times-requires c =
    let curve : FitsSigned w128 c.args.c = c.ranges.c in
    simp to_z-of_z (fits_w128_mul (pos 2) c.args.c 2 (2 ^ 60) (omega (arith, ints)) c.requires.c (omega arith))

pub times-requires-2 : goal.times-requires-2
times-requires-2 c =
    let s : FitsSigned w64 c.args.s = c.ranges.s in
    let curve : FitsSigned w128 c.args.c = c.ranges.c in
    let wide : FitsSigned w128 c.from.result = search rules in
    let twice : FitsSigned w128 c.times.result = search rules in
    let is = simp to_z-of_z at c.from.ensures in
    let twice_is = simp to_z-of_z at c.times.ensures in
    simp to_z-of_z (rw (is, twice_is) (fits_w128_mul (pos 2 *ℤ c.args.c) c.args.s (2 ^ 61) (2 ^ 17) (twice_width c.args.c c.requires.c) c.requires.s (omega arith)))

pub plus-requires : goal.plus-requires
plus-requires c =
    let s : FitsSigned w64 c.args.s = c.ranges.s in
    let grade : FitsSigned w128 c.args.b = c.ranges.b in
    let curve : FitsSigned w128 c.args.c = c.ranges.c in
    let wide : FitsSigned w128 c.from.result = search rules in
    let twice : FitsSigned w128 c.times.result = search rules in
    let product : FitsSigned w128 c.times-2.result = search rules in
    let is = simp to_z-of_z at c.from.ensures in
    let twice_is = simp to_z-of_z at c.times.ensures in
    let times = rw (is, twice_is) at (simp to_z-of_z at c.times-2.ensures) in
    let width = unsigned_abs_mul_le (pos 2 *ℤ c.args.c) c.args.s (2 ^ 61) (2 ^ 17) (twice_width c.args.c c.requires.c) c.requires.s in
    simp to_z-of_z (rw times (fits_w128_add c.args.b ((pos 2 *ℤ c.args.c) *ℤ c.args.s) (2 ^ 60) (2 ^ 61 * 2 ^ 17) c.requires.b width (omega arith)))

pub returns : goal.returns
returns c =
    let s : FitsSigned w64 c.args.s = c.ranges.s in
    let grade : FitsSigned w128 c.args.b = c.ranges.b in
    let curve : FitsSigned w128 c.args.c = c.ranges.c in
    let wide : FitsSigned w128 c.from.result = search rules in
    let twice : FitsSigned w128 c.times.result = search rules in
    let product : FitsSigned w128 c.times-2.result = search rules in
    let sum : FitsSigned w128 c.plus.result = search rules in
    let is = simp to_z-of_z at c.from.ensures in
    let twice_is = simp to_z-of_z at c.times.ensures in
    let times = rw (is, twice_is) at (simp to_z-of_z at c.times-2.ensures) in
    simp to_z-of_z (rw times at (simp to_z-of_z at c.plus.ensures))
