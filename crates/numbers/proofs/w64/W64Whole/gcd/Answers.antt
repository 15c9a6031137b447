use Rattle.std.proofs.Common.{◌<◌, ◌^◌, arith}
use Rattle.std.specs.Prelude.{FitsSigned}
use Rattle.std.specs.Int.{w64}
use Rattle.std.proofs.lemmas.Int.{to_z-of_z, to_z_pos, fits_signed_from_abs}
use Rattle.numbers.proofs.DivisorsLemmas.{greatest_of_sizes}
use Rattle.numbers.proofs.w64.W64Whole.gcd.Goals as goal

pub returns : goal.returns
returns c =
    let a = c.args.self in
    let b = c.args.other in
    let fa : FitsSigned w64 a.value = fits_signed_from_abs w64 a.value a.in_range in
    let fb : FitsSigned w64 b.value = fits_signed_from_abs w64 b.value b.in_range in
    let left = simp to_z-of_z at c.unsigned_abs.ensures.value in
    let right = simp to_z-of_z at c.unsigned_abs-2.ensures.value in
    let first = a.in_range in
    let second = b.in_range in
    let g = c.gcd_word-divisor.result in
    let small : g < 2 ^ 63 = omega arith in
    greatest_of_sizes a.value b.value _ _ g _ left right c.gcd_word-divisor.ensures.greatest (to_z_pos w64 g small)
