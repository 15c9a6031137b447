use Rattle.std.proofs.Common.{arith}
use Rattle.std.specs.Prelude.{◌-ℤ◌, FitsSigned}
use Rattle.std.specs.Int.{w128}
use Rattle.std.proofs.lemmas.Int.{to_z-of_z}
use Rattle.worked_values.proofs.SmallLemmas.{fits_wide, difference_width}
use Rattle.worked_values.proofs.small.SmallWhole.product_difference.Goals as goal

pub returns-clause-some : goal.returns-clause-some
returns-clause-some c =
    let p = c.product.result in
    let q = c.product-2.result in
    let first = c.product.ensures.width in
    let second = c.product-2.ensures.width in
    let fits_p : FitsSigned w128 p = fits_wide p (omega arith) in
    let fits_q : FitsSigned w128 q = fits_wide q (omega arith) in
    let fits : FitsSigned w128 (p -ℤ q) = fits_wide (p -ℤ q) (difference_width p q first second) in
    let some = rw (c.product.ensures.value, c.product-2.ensures.value) at (simp to_z-of_z at c.of_wide.ensures.some) in
    let left = rw c.product.ensures.value at first in
    let right = rw c.product-2.ensures.value at second in (
      λ h. record { left = omega arith; right = omega arith; difference = some.0 h },
      λ h. some.1 h.difference,
    )

pub returns-clause-value : goal.returns-clause-value
returns-clause-value c =
    let p = c.product.result in
    let q = c.product-2.result in
    let first = c.product.ensures.width in
    let second = c.product-2.ensures.width in
    let fits_p : FitsSigned w128 p = fits_wide p (omega arith) in
    let fits_q : FitsSigned w128 q = fits_wide q (omega arith) in
    let fits : FitsSigned w128 (p -ℤ q) = fits_wide (p -ℤ q) (difference_width p q first second) in
    rw (c.product.ensures.value, c.product-2.ensures.value) at (simp to_z-of_z at c.of_wide.ensures.value)
