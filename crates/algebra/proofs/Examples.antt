-- The definitions and laws at small numbers.
use Rattle.std.proofs.Common.{◌≡◌, ◌*◌, ◌^◌, ◌≤◌, arith, refl}
use Rattle.std.specs.Prelude.{ℤ, pos, negsuc, ◌+ℤ◌, ◌-ℤ◌, ◌*ℤ◌, ◌≤ℤ◌, FitsSigned, unsigned_abs}
use Rattle.std.specs.Int.{int_min, w128}
use Rattle.std.proofs.lemmas.Int.{ints}
use Rattle.algebra.specs.Sums.{sum_to}
use Rattle.algebra.proofs.Products.{mults, numerals}
use Rattle.algebra.proofs.Order.{int_min_le_mul}
use Rattle.algebra.proofs.Magnitudes.{fits_w128_mul}
use Rattle.algebra.proofs.SumsLemmas.{sum_to_mul_left}

-- sums: of nothing, of the first squares, of signed numbers, of one number
no_summand : sum_to (λ k. pos k) 0 ≡ pos 0
no_summand = refl

first_squares : sum_to (λ k. pos (k * k)) 4 ≡ pos 30
first_squares = refl

signed_numbers : sum_to (λ k. pos 3 -ℤ pos k) 5 ≡ pos 0
signed_numbers = refl

one_number : sum_to (λ _. negsuc 6) 3 ≡ negsuc 20
one_number = refl

rows_then_columns : sum_to (λ i. sum_to (λ j. pos i *ℤ pos j) 3) 2 ≡ sum_to (λ j. sum_to (λ i. pos i *ℤ pos j) 2) 3
rows_then_columns = refl

tripled : sum_to (λ k. pos 3 *ℤ pos k) 4 ≡ pos 30
tripled = sum_to_mul_left (pos 3) (λ k. pos k) 4

-- products at signed numbers
signed_product : (pos 2 -ℤ pos 7) *ℤ (pos 1 -ℤ pos 4) ≡ pos 15
signed_product = refl

-- equations of polynomials, of degree 2 to 4, with numerals
difference_of_squares : (a b : ℤ) → (a +ℤ b) *ℤ (a -ℤ b) ≡ a *ℤ a -ℤ b *ℤ b
difference_of_squares a b = simp mults (omega (arith, ints))

third_degree : (a b c : ℤ) → (a +ℤ b) *ℤ (a -ℤ c) *ℤ c ≡ c *ℤ a *ℤ a +ℤ b *ℤ a *ℤ c -ℤ c *ℤ a *ℤ c -ℤ b *ℤ c *ℤ c
third_degree a b c = simp mults (omega (arith, ints))

with_numerals : (a b c d : ℤ) → a *ℤ (pos 2 *ℤ b) *ℤ (c *ℤ pos 3) *ℤ d ≡ pos 6 *ℤ d *ℤ c *ℤ a *ℤ b
with_numerals a b c d = simp mults (omega (arith, ints, numerals))

cube_of_a_sum : (a b : ℤ) → (a +ℤ b) *ℤ (a +ℤ b) *ℤ (a +ℤ b) ≡ a *ℤ a *ℤ a +ℤ pos 3 *ℤ a *ℤ a *ℤ b +ℤ pos 3 *ℤ a *ℤ b *ℤ b +ℤ b *ℤ b *ℤ b
cube_of_a_sum a b = simp mults (omega (arith, ints, numerals))

-- the lesser of two multiples is below the multiple of a number between
between : int_min (negsuc 2 *ℤ negsuc 4) (negsuc 2 *ℤ pos 7) ≤ℤ (negsuc 2 *ℤ pos 6)
between = int_min_le_mul (negsuc 2) (negsuc 4) (pos 7) (pos 6) (omega (arith, ints)) (omega (arith, ints))

-- two magnitudes within 2^63 have a product that fits 128 bits
product_of_words : (a b : ℤ) → unsigned_abs a ≤ 2 ^ 63 → unsigned_abs b ≤ 2 ^ 63 → FitsSigned w128 (a *ℤ b)
product_of_words a b p q = fits_w128_mul a b (2 ^ 63) (2 ^ 63) p q (omega arith)
