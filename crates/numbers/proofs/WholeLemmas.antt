-- Products of whole numbers of 64 bits are in range of 128 bits.
use Rattle.std.proofs.Common.{◌≡◌, ◌^◌, ◌-◌, ◌<◌, refl, arith, to_z, of_z}
use Rattle.std.specs.Prelude.{ℤ, ◌-ℤ◌, ◌*ℤ◌, FitsSigned, unsigned_abs}
use Rattle.std.specs.Int.{w128}
use Rattle.std.proofs.lemmas.Int.{to_z-of_z}
use Rattle.algebra.proofs.Magnitudes.{unsigned_abs_mul_le, fits_w128, fits_w128_sub}

pub word_product_below : (a b : ℤ) → unsigned_abs a < 2 ^ 63 → unsigned_abs b < 2 ^ 63 → unsigned_abs (a *ℤ b) < 2 ^ 126
word_product_below a b p q =
    let h = unsigned_abs_mul_le a b (2 ^ 63 - 1) (2 ^ 63 - 1) (omega arith) (omega arith) in omega arith

pub word_product_fits : (a b : ℤ) → unsigned_abs a < 2 ^ 63 → unsigned_abs b < 2 ^ 63 → FitsSigned w128 (a *ℤ b)
word_product_fits a b p q = fits_w128 (a *ℤ b) (let h = word_product_below a b p q in omega arith)

-- what is had of two words in 128 bits, x and y, of the numbers a and b
pub wide_product : (x y a b : ℤ) → x ≡ a → y ≡ b → unsigned_abs a < 2 ^ 63 → unsigned_abs b < 2 ^ 63 → to_z w128 (of_z w128 (to_z w128 (of_z w128 x) *ℤ to_z w128 (of_z w128 y))) ≡ a *ℤ b
wide_product x y a b p q h k =
    let left : FitsSigned w128 a = fits_w128 a (omega arith) in
    let right : FitsSigned w128 b = fits_w128 b (omega arith) in
    let fits = word_product_fits a b h k in
    rw (p, q) (simp to_z-of_z)

pub product_difference_fits : (x y : ℤ) → unsigned_abs x < 2 ^ 126 → unsigned_abs y < 2 ^ 126 → FitsSigned w128 (x -ℤ y)
product_difference_fits x y p q = fits_w128_sub x y (2 ^ 126 - 1) (2 ^ 126 - 1) (omega arith) (omega arith) (omega arith)

-- the difference of the products x and y in 128 bits
pub product_difference_is : (x y a b : ℤ) → x ≡ a → y ≡ b → unsigned_abs x < 2 ^ 126 → unsigned_abs y < 2 ^ 126 → to_z w128 (of_z w128 (to_z w128 (of_z w128 x) -ℤ to_z w128 (of_z w128 y))) ≡ a -ℤ b
product_difference_is x y a b p q h k =
    let left : FitsSigned w128 x = fits_w128 x (omega arith) in
    let right : FitsSigned w128 y = fits_w128 y (omega arith) in
    let fits = product_difference_fits x y h k in
    let e : x -ℤ y ≡ a -ℤ b = rw (p, q) refl in
    simp to_z-of_z e
