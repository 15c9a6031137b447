use Rattle.std.proofs.Common.{◌^◌, arith, FitsSigned}
use Rattle.std.specs.Prelude.{◌*ℤ◌}
use Rattle.std.specs.Int.{w64}
use Rattle.std.proofs.lemmas.Int.{to_z-of_z}
use Rattle.algebra.proofs.Magnitudes.{unsigned_abs_mul_le, fits_w64}
use Rattle.section_rows.proofs.numbers.square.Goals as goal

pub overflow_mul-result : goal.overflow_mul-result
overflow_mul-result c =
    let s = c.ranges.s in
    let size = unsigned_abs_mul_le c.args.s c.args.s (2 ^ 17) (2 ^ 17) c.requires c.requires in
    simp to_z-of_z (fits_w64 (c.args.s *ℤ c.args.s) (omega (arith, size)))

pub returns-clause-value : goal.returns-clause-value
returns-clause-value c =
    let s = c.ranges.s in
    let size = unsigned_abs_mul_le c.args.s c.args.s (2 ^ 17) (2 ^ 17) c.requires c.requires in
    let fits : FitsSigned w64 (c.args.s *ℤ c.args.s) = fits_w64 (c.args.s *ℤ c.args.s) (omega (arith, size)) in
    simp to_z-of_z

pub returns-clause-small : goal.returns-clause-small
returns-clause-small c =
    let s = c.ranges.s in
    let size = unsigned_abs_mul_le c.args.s c.args.s (2 ^ 17) (2 ^ 17) c.requires c.requires in
    let fits : FitsSigned w64 (c.args.s *ℤ c.args.s) = fits_w64 (c.args.s *ℤ c.args.s) (omega (arith, size)) in
    simp to_z-of_z (omega (arith, size))
