use Rattle.std.proofs.Common.{FitsSigned, rules, arith, ℕ, ◌^◌, ◌≤◌}
use Rattle.std.specs.Prelude.{ℤ, pos, ◌≤ℤ◌, unsigned_abs}
use Rattle.std.specs.Int.{w64, w128}
use Rattle.std.proofs.lemmas.Int.{ints, to_z-of_z}
use Rattle.algebra.proofs.Magnitudes.{fits_w128_mul}
use Rattle.algebra.proofs.Order.{int_mul_nonneg, int_mul_le_mul}
use Rattle.road_types.proofs.volumes.volume_of.Goals as goal

within : (x : ℤ) (n : ℕ) → pos 0 ≤ℤ x → x ≤ℤ pos n → unsigned_abs x ≤ n
within x n p q = omega (arith, ints)

pub times-requires : goal.times-requires
times-requires c =
    let area : FitsSigned w64 c.args.area = c.ranges.area in
    let thickness : FitsSigned w128 c.args.thickness = c.ranges.thickness in
    let wide : FitsSigned w128 c.from.result = search rules in
    let is = simp to_z-of_z at c.from.ensures in
    simp to_z-of_z (rw is (fits_w128_mul c.args.area c.args.thickness (2 ^ 24) (2 ^ 64)
    (within c.args.area (2 ^ 24) c.requires.area_from c.requires.area_to)
    (within c.args.thickness (2 ^ 64) c.requires.thickness_from c.requires.thickness_to) (omega arith)))

pub returns-clause-value : goal.returns-clause-value
returns-clause-value c =
    let area : FitsSigned w64 c.args.area = c.ranges.area in
    let thickness : FitsSigned w128 c.args.thickness = c.ranges.thickness in
    let wide : FitsSigned w128 c.from.result = search rules in
    let product : FitsSigned w128 c.times.result = search rules in
    let is = simp to_z-of_z at c.from.ensures in
    simp to_z-of_z (rw is at (simp to_z-of_z at c.times.ensures))

pub returns-clause-from : goal.returns-clause-from
returns-clause-from c =
    let area : FitsSigned w64 c.args.area = c.ranges.area in
    let thickness : FitsSigned w128 c.args.thickness = c.ranges.thickness in
    let wide : FitsSigned w128 c.from.result = search rules in
    let product : FitsSigned w128 c.times.result = search rules in
    let is = simp to_z-of_z at c.from.ensures in
    let value = rw is at (simp to_z-of_z at c.times.ensures) in
    simp to_z-of_z (rw value (int_mul_nonneg c.args.area c.args.thickness c.requires.area_from c.requires.thickness_from))

pub returns-clause-to : goal.returns-clause-to
returns-clause-to c =
    let area : FitsSigned w64 c.args.area = c.ranges.area in
    let thickness : FitsSigned w128 c.args.thickness = c.ranges.thickness in
    let wide : FitsSigned w128 c.from.result = search rules in
    let product : FitsSigned w128 c.times.result = search rules in
    let is = simp to_z-of_z at c.from.ensures in
    let value = rw is at (simp to_z-of_z at c.times.ensures) in
    simp to_z-of_z (rw value (int_mul_le_mul c.args.area (pos (2 ^ 24)) c.args.thickness (pos (2 ^ 64))
    c.requires.area_from c.requires.area_to c.requires.thickness_from c.requires.thickness_to))
