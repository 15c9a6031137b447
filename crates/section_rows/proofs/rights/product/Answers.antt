use Rattle.std.proofs.Common.{◌^◌, arith, FitsSigned}
use Rattle.std.specs.Prelude.{◌*ℤ◌}
use Rattle.std.specs.Int.{w64}
use Rattle.std.proofs.lemmas.Int.{to_z-of_z, fits_signed_from_abs}
use Rattle.algebra.proofs.Magnitudes.{unsigned_abs_mul_le}
use Rattle.section_rows.proofs.rights.product.Goals as goal

pub returns-clause-value : goal.returns-clause-value
returns-clause-value c =
    let slope = c.ranges.slope in
    let offset = c.ranges.offset in
    let size = unsigned_abs_mul_le c.args.slope c.args.offset (2 ^ 24) (2 ^ 26) c.requires.slope c.requires.offset in
    let fits : FitsSigned w64 (c.args.slope *ℤ c.args.offset) = fits_signed_from_abs w64 (c.args.slope *ℤ c.args.offset) (omega arith) in
    simp to_z-of_z

pub returns-clause-small : goal.returns-clause-small
returns-clause-small c =
    let slope = c.ranges.slope in
    let offset = c.ranges.offset in
    let size = unsigned_abs_mul_le c.args.slope c.args.offset (2 ^ 24) (2 ^ 26) c.requires.slope c.requires.offset in
    let fits : FitsSigned w64 (c.args.slope *ℤ c.args.offset) = fits_signed_from_abs w64 (c.args.slope *ℤ c.args.offset) (omega arith) in
    simp to_z-of_z (omega arith)
