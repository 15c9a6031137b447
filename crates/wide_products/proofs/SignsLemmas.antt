-- Signs and magnitudes.
use Rattle.std.proofs.Common.{◌≡◌, ℕ, suc, ◌+◌, ◌*◌, ◌/◌, ◌%◌, ◌^◌, ◌<◌, true, false, refl, arith, ap, subst, sym, ◌∙◌}
use Rattle.std.specs.Prelude.{Bool, ℤ, pos, negsuc, neg_ℤ, ◌+ℤ◌, ◌-ℤ◌, ◌*ℤ◌, ◌≢◌, unsigned_abs}
use Rattle.std.specs.Int.{IsGcd, ◌∣◌}
use Rattle.std.proofs.lemmas.Int.{ints}
use Rattle.algebra.proofs.Products.{int_mul_neg, int_neg_mul, int_neg_neg}
use Rattle.numbers.specs.Divisors.{Divides, IsGreatestCommonDivisor}
use Rattle.numbers.proofs.DivisorsLemmas.{dvd_of_divides, greatest_of_sizes}
use Rattle.wide_products.specs.Naturals.{signed, whole_of}
use Rattle.wide_products.specs.declared.wide.Wide.{Wide}
use Rattle.wide_products.proofs.NaturalsLemmas.{rest_zero}
use mathlib.Core.Bool.{not, beq}

halves : (n : ℕ) → n % 2 ^ 128 + n / 2 ^ 128 * 2 ^ 128 ≡ n
halves n = omega arith

pub abs_signed : (s : Bool) (n : ℕ) → unsigned_abs (signed s n) ≡ n
abs_signed false n = refl
abs_signed true n = omega (arith, ints)

pub signed_difference : (s : Bool) (a b r : ℕ) → r + b ≡ a → signed s r ≡ signed s a -ℤ signed s b
signed_difference false a b r e = omega (arith, ints)
signed_difference true a b r e = omega (arith, ints)

pub signed_sum : (s t : Bool) (a b r : ℕ) → not (beq s t) ≡ false → r ≡ a + b → signed s r ≡ signed s a +ℤ signed t b
signed_sum false false a b r h e = omega (arith, ints)
signed_sum true true a b r h e = omega (arith, ints)
signed_sum false true a b r h e = cc
signed_sum true false a b r h e = cc

pub opposite_within : (s t : Bool) (a b : ℕ) → not (beq s t) ≡ true → a < 2 ^ 256 → b < 2 ^ 256 → unsigned_abs (signed s a +ℤ signed t b) < 2 ^ 256
opposite_within false true a b h p q = omega (arith, ints)
opposite_within true false a b h p q = omega (arith, ints)
opposite_within false false a b h p q = cc
opposite_within true true a b h p q = cc

pub signed_product : (s t : Bool) (a b r : ℕ) → r ≡ a * b → signed (not (beq s t)) r ≡ signed s a *ℤ signed t b
signed_product false false a b r e = omega (arith, ints)
signed_product true true a b r e =
    ap pos e ∙ sym (int_neg_neg (pos a *ℤ pos b)) ∙ ap neg_ℤ (sym (int_mul_neg (pos a) (pos b))) ∙ sym (int_neg_mul (pos a) (neg_ℤ (pos b)))
signed_product false true a b r e = ap (λ n. neg_ℤ (pos n)) e ∙ sym (int_mul_neg (pos a) (pos b))
signed_product true false a b r e = ap (λ n. neg_ℤ (pos n)) e ∙ sym (int_neg_mul (pos a) (pos b))

pub signed_quotient : (s t : Bool) (v d q : ℕ) → q * d ≡ v → signed (not (beq s t)) q *ℤ signed t d ≡ signed s v
signed_quotient false false v d q e = sym (signed_product false false q d v (sym e))
signed_quotient true true v d q e = sym (signed_product false true q d v (sym e))
signed_quotient false true v d q e = sym (signed_product true true q d v (sym e))
signed_quotient true false v d q e = sym (signed_product true false q d v (sym e))

pub exact_quotient : (s t : Bool) (v d q rest : ℕ) → Divides (signed t d) (signed s v) → q * d + rest ≡ v → rest < d → signed (not (beq s t)) q *ℤ signed t d ≡ signed s v
exact_quotient s t v d q rest h e l =
    let P : ℕ → Type 0 = λ x. x ∣ v in
    let Q : ℕ → Type 0 = λ x. unsigned_abs (signed t d) ∣ x in
    let divides = subst P (abs_signed t d) (subst Q (abs_signed s v) (dvd_of_divides (signed t d) (signed s v) h)) in
    signed_quotient s t v d q (rest_zero q d rest v divides e l)

pub some_magnitude : (t : Bool) (d : ℕ) → signed t d ≢ pos 0 → 0 < d
some_magnitude false d h = omega (arith, ints)
some_magnitude true d h = omega (arith, ints)

pub signed_greatest : (s t : Bool) (a b g : ℕ) → IsGcd a b g → IsGreatestCommonDivisor (signed s a) (signed t b) (pos g)
signed_greatest s t a b g h = greatest_of_sizes (signed s a) (signed t b) a b g (pos g) (sym (abs_signed s a)) (sym (abs_signed t b)) h refl

-- each whole number is that of some value
pub made : (z : ℤ) → (w : Wide) × (whole_of w ≡ z)
made (pos n) = (record { negative = false; magnitude = record { high = n / 2 ^ 128; low = n % 2 ^ 128 } }, ap pos (halves n))
made (negsuc n) = (record { negative = true; magnitude = record { high = suc n / 2 ^ 128; low = suc n % 2 ^ 128 } }, ap (λ m. neg_ℤ (pos m)) (halves (suc n)))
