use Rattle.std.proofs.Common.{◌<◌, ◌^◌, arith}
use Rattle.std.specs.Prelude.{FitsSigned}
use Rattle.std.specs.Int.{w128}
use Rattle.std.proofs.lemmas.Int.{to_z-of_z, to_z_pos, fits_signed_from_abs}
use Rattle.numbers.proofs.DivisorsLemmas.{greatest_of_sizes}
use Rattle.numbers.proofs.w128.W128Whole.gcd.Goals as goal

pub returns : goal.returns
returns c =
    let a = c.args.self in
    let b = c.args.other in
    let fa : FitsSigned w128 a.value = fits_signed_from_abs w128 a.value a.in_range in
    let fb : FitsSigned w128 b.value = fits_signed_from_abs w128 b.value b.in_range in
    let left = simp to_z-of_z at c.unsigned_abs.ensures.value in
    let right = simp to_z-of_z at c.unsigned_abs-2.ensures.value in
    let first = a.in_range in
    let second = b.in_range in
    let g = c.magnitude_gcd-divisor.result in
    let small : g < 2 ^ 127 = omega arith in
    greatest_of_sizes a.value b.value _ _ g _ left right c.magnitude_gcd-divisor.ensures.greatest (to_z_pos w128 g small)
