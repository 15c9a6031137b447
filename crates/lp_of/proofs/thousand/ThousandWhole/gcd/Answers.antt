use Rattle.std.proofs.Common.{arith}
use Rattle.std.specs.Prelude.{FitsSigned}
use Rattle.std.specs.Int.{w16, w128}
use Rattle.std.proofs.lemmas.Int.{to_z-of_z, fits_signed_from_abs}
use Rattle.lp_of.proofs.ThousandLemmas.{divisor_from, divisor_within}
use Rattle.lp_of.proofs.thousand.ThousandWhole.gcd.Goals as goal

pub overflow_cast-result : goal.overflow_cast-result
overflow_cast-result c =
    let r = c.wide-divisor.result in
    let h = divisor_from _ _ _ _ _ r c.word.ensures c.word-2.ensures c.wide-divisor.ensures c.gcd.ensures in
    let small = divisor_within c.args.self.value c.args.other.value r 1000 c.args.self.in_range c.args.other.in_range h in
    let wide : FitsSigned w128 r = fits_signed_from_abs w128 r (omega arith) in
    simp to_z-of_z (fits_signed_from_abs w16 r (omega arith))

pub invariant_of-result : goal.invariant_of-result
invariant_of-result c =
    let r = c.wide-divisor.result in
    let h = divisor_from _ _ _ _ _ r c.word.ensures c.word-2.ensures c.wide-divisor.ensures c.gcd.ensures in
    let small = divisor_within c.args.self.value c.args.other.value r 1000 c.args.self.in_range c.args.other.in_range h in
    let wide : FitsSigned w128 r = fits_signed_from_abs w128 r (omega arith) in
    let narrow : FitsSigned w16 r = fits_signed_from_abs w16 r (omega arith) in
    simp to_z-of_z (record { in_range = small })

pub returns : goal.returns
returns c =
    let r = c.wide-divisor.result in
    let h = divisor_from _ _ _ _ _ r c.word.ensures c.word-2.ensures c.wide-divisor.ensures c.gcd.ensures in
    let small = divisor_within c.args.self.value c.args.other.value r 1000 c.args.self.in_range c.args.other.in_range h in
    let wide : FitsSigned w128 r = fits_signed_from_abs w128 r (omega arith) in
    let narrow : FitsSigned w16 r = fits_signed_from_abs w16 r (omega arith) in
    simp to_z-of_z h
