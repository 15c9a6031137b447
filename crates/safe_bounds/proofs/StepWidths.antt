-- Each step of a value fits its width.
use Rattle.std.proofs.Common.{◌≡◌, ℕ, ◌+◌, ◌*◌, ◌^◌, ◌≤◌, arith, ap, sym, ◌∙◌, to_z, of_z}
use Rattle.std.specs.Prelude.{ℤ, pos, ◌+ℤ◌, ◌-ℤ◌, ◌*ℤ◌, FitsSigned, unsigned_abs}
use Rattle.std.specs.Int.{w64, w128}
use Rattle.std.proofs.lemmas.Int.{ints, to_z-of_z}
use Rattle.algebra.proofs.Magnitudes.{unsigned_abs_mul_le, unsigned_abs_add, unsigned_abs_sub, fits_w128_add, fits_w128_sub, fits_w128_mul}
use Rattle.programs.specs.Weights.{reach}

word_width : (x : ℤ) → FitsSigned w64 x → unsigned_abs x ≤ 2 ^ 63
word_width x f = omega (arith, ints)

-- a multiplier or a scale times a number of 64 bits
pub product_of_word : (y x : ℤ) → unsigned_abs y ≤ 2 ^ 40 → FitsSigned w64 x → unsigned_abs (y *ℤ x) ≤ 2 ^ 103
product_of_word y x p f = unsigned_abs_mul_le y x (2 ^ 40) (2 ^ 63) p (word_width x f)

pub word_product_fits : (y x : ℤ) → unsigned_abs y ≤ 2 ^ 40 → FitsSigned w64 x → FitsSigned w128 (y *ℤ x)
word_product_fits y x p f = fits_w128_mul y x (2 ^ 40) (2 ^ 63) p (word_width x f) (omega arith)

pub drawn_fits : (old y x : ℤ) → unsigned_abs old ≤ 2 ^ 124 → unsigned_abs y ≤ 2 ^ 40 → FitsSigned w64 x → FitsSigned w128 (old +ℤ y *ℤ x)
drawn_fits old y x p q f = fits_w128_add old (y *ℤ x) (2 ^ 124) (2 ^ 103) p (product_of_word y x q f) (omega arith)

pub drawn_width : (k : ℕ) (old y x : ℤ) → unsigned_abs old ≤ k → unsigned_abs y ≤ 2 ^ 40 → FitsSigned w64 x → unsigned_abs (old +ℤ y *ℤ x) ≤ k + 2 ^ 103
drawn_width k old y x p q f =
    let b = product_of_word y x q f in
    omega (arith, unsigned_abs_add old (y *ℤ x))

pub reduced_fits : (scale cost drawn : ℤ) → unsigned_abs scale ≤ 2 ^ 40 → FitsSigned w64 cost → unsigned_abs drawn ≤ 2 ^ 123 → FitsSigned w128 (scale *ℤ cost -ℤ drawn)
reduced_fits scale cost drawn p f q = fits_w128_sub (scale *ℤ cost) drawn (2 ^ 103) (2 ^ 123) (product_of_word scale cost p f) q (omega arith)

pub reduced_width : (scale cost drawn difference : ℤ) → unsigned_abs scale ≤ 2 ^ 40 → FitsSigned w64 cost → unsigned_abs drawn ≤ 2 ^ 123 → difference ≡ scale *ℤ cost -ℤ drawn → unsigned_abs difference ≤ 2 ^ 124
reduced_width scale cost drawn difference p f q e =
    let b = product_of_word scale cost p f in
    rw e (omega (arith, unsigned_abs_sub (scale *ℤ cost) drawn))

-- a reduced cost times one of the bounds
pub share_fits : (r x : ℤ) (b : ℤ × ℤ) → unsigned_abs r * reach b ≤ 2 ^ 126 → unsigned_abs x ≤ reach b → FitsSigned w128 (r *ℤ x)
share_fits r x b h q = fits_w128_mul r x (unsigned_abs r) (reach b) (omega arith) q (omega arith)

pub low_in_reach : (x : ℤ) (b c : ℤ × ℤ) → x ≡ b.0 → b ≡ c → unsigned_abs x ≤ reach c
low_in_reach x b c p q = rw (p, q) (omega arith)

pub high_in_reach : (x : ℤ) (b c : ℤ × ℤ) → x ≡ b.1 → b ≡ c → unsigned_abs x ≤ reach c
high_in_reach x b c p q = rw (p, q) (omega arith)

-- right sides summed up, and one more
pub rights_fit : (value more : ℤ) (k : ℕ) → unsigned_abs value ≤ k * 2 ^ 103 → unsigned_abs more ≤ 2 ^ 103 → k ≤ 600 → FitsSigned w128 (value +ℤ more)
rights_fit value more k p q few = fits_w128_add value more (k * 2 ^ 103) (2 ^ 103) p q (omega arith)

pub rights_width_more : (value more sum : ℤ) (k : ℕ) → unsigned_abs value ≤ k * 2 ^ 103 → unsigned_abs more ≤ 2 ^ 103 → sum ≡ value +ℤ more → unsigned_abs sum ≤ (k + 1) * 2 ^ 103
rights_width_more value more sum k p q e = rw e (omega (arith, unsigned_abs_add value more))

-- a number without bits is 0
pub none_of_bits : (x : ℤ) → FitsSigned w128 x → of_z w128 x ≡ 0 → x ≡ pos 0
none_of_bits x f e = sym (to_z-of_z w128 x f) ∙ ap (to_z w128) e
