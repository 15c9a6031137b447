use Rattle.std.proofs.Common.{◌≡◌, ◌^◌, ◌<◌, arith}
use Rattle.std.specs.Prelude.{◌-ℤ◌, ◌*ℤ◌, FitsSigned, unsigned_abs}
use Rattle.std.specs.Int.{w128}
use Rattle.std.proofs.lemmas.Int.{to_z-of_z}
use Rattle.algebra.proofs.Magnitudes.{fits_w128}
use Rattle.numbers.proofs.w64.W64Whole.product_difference.Goals as goal

module _ (c : goal.After-of_wide) where
  made : (c.word_product_difference.result ≡ c.args.self.value *ℤ c.args.factor.value -ℤ c.args.other.value *ℤ c.args.by.value) × ((unsigned_abs (c.args.self.value *ℤ c.args.factor.value) < 2 ^ 126) × (unsigned_abs (c.args.other.value *ℤ c.args.by.value) < 2 ^ 126))
  made =
      let a : FitsSigned w128 c.args.self.value = fits_w128 c.args.self.value (let h = c.args.self.in_range in omega arith) in
      let b : FitsSigned w128 c.args.factor.value = fits_w128 c.args.factor.value (let h = c.args.factor.in_range in omega arith) in
      let d : FitsSigned w128 c.args.other.value = fits_w128 c.args.other.value (let h = c.args.other.in_range in omega arith) in
      let e : FitsSigned w128 c.args.by.value = fits_w128 c.args.by.value (let h = c.args.by.in_range in omega arith) in
      let h = simp to_z-of_z at (rw (c.wide.ensures, c.wide-2.ensures, c.wide-3.ensures, c.wide-4.ensures) at c.word_product_difference.ensures) in
      (h.value, h.products)

pub returns-clause-some : goal.returns-clause-some
returns-clause-some c =
    let m = made c in
    let left = m.1.0 in
    let right = m.1.1 in
    let fits : FitsSigned w128 c.word_product_difference.result = record { sfits = c.word_product_difference.type_inv } in
    let some = rw m.0 at (simp to_z-of_z at c.of_wide.ensures.some) in (
      λ h. record { left = omega arith; right = omega arith; difference = some.0 h },
      λ h. some.1 h.difference,
    )

pub returns-clause-value : goal.returns-clause-value
returns-clause-value c =
    let fits : FitsSigned w128 c.word_product_difference.result = record { sfits = c.word_product_difference.type_inv } in
    rw (made c).0 at (simp to_z-of_z at c.of_wide.ensures.value)
