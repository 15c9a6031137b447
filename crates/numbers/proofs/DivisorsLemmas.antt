-- Divisibility of whole numbers, and against divisibility of their magnitudes.
use Rattle.std.proofs.Common.{◌≡◌, ℕ, zero, suc, ◌+◌, ◌-◌, ◌*◌, ◌/◌, ◌^◌, ◌≤◌, ◌<◌, max, ⊎_elim, refl, arith, ap, sym, ◌∙◌, subst}
use Rattle.std.specs.Prelude.{ℤ, pos, negsuc, neg_ℤ, ◌+ℤ◌, ◌-ℤ◌, ◌*ℤ◌, ◌≤ℤ◌, ◌<ℤ◌, ◌≢◌, unsigned_abs, int_div, int_rem}
use Rattle.std.specs.Int.{IsGcd, ◌∣◌, cast_signed, cast_unsigned}
use mir.Syntax.{Width}
use mir.Val.{hbits}
use Rattle.std.proofs.Math.Nat.{eq_of_mul-eq-mul_left, mul-dvd-mul_left, mul-le-mul_right, dvd_refl, eq-zero_of_zero-dvd, mod-eq-zero_of_dvd, mul-sub, mul-le-mul_left, one-dvd, dvd-mul_left, dvd-mul_right, mul-div_cancel', le_of_dvd, dvd_antisymm, pos_of_dvd_of_pos, div-mul_cancel, dvd_of_mul-dvd-mul_right, mul-dvd-mul_right}
use Rattle.std.proofs.lemmas.Nat.Gcd.{IsGcd-swap, IsGcd-from_zero, IsGcd-from_sub, same_from_IsGcd}
use Rattle.std.proofs.lemmas.Bool.{cases_lt}
use Rattle.std.proofs.lemmas.Int.{ints, unsigned_abs-mul, quot-rem, quot_is, fits_signed_from_abs}
use Rattle.algebra.proofs.Products.{int_mul_assoc, int_mul_add, int_mul_neg, int_mul_comm}
use Rattle.numbers.specs.Divisors.{Divides, IsGreatestCommonDivisor}
use Rattle.numbers.specs.inside.LowestTerms.{IsLeastCommonMultiple}

-- ---- naturals

pub IsGcd-from_one_left : (a b : ℕ) → a ≡ 1 → IsGcd a b 1
IsGcd-from_one_left a b e = (one-dvd a, one-dvd b, λ d p q. subst (λ n. d ∣ n) e p)

pub IsGcd-from_one_right : (a b : ℕ) → b ≡ 1 → IsGcd a b 1
IsGcd-from_one_right a b e = IsGcd-swap b a 1 (IsGcd-from_one_left b a e)

-- a greatest common divisor is at most the greater of the two
pub IsGcd-le_max : (a b g : ℕ) → IsGcd a b g → g ≤ max a b
IsGcd-le_max zero zero g h = let e = eq-zero_of_zero-dvd (h.2 0 (dvd_refl 0) (dvd_refl 0)) in omega arith
IsGcd-le_max (suc a) b g h = let some : 0 < suc a = omega arith in let l = le_of_dvd some h.0 in omega arith
IsGcd-le_max zero (suc b) g h = let some : 0 < suc b = omega arith in let l = le_of_dvd some h.1 in omega arith

-- two numbers have a greatest common divisor, and the same multiple of both has that multiple of it
scaled : (n a b : ℕ) → a + b ≤ n → (g : ℕ) × IsGcd a b g × ((k : ℕ) → IsGcd (k * a) (k * b) (k * g))
scaled n a zero h = (a, IsGcd-from_zero a 0 refl, λ k. IsGcd-from_zero (k * a) (k * 0) (omega arith))
scaled n zero (suc b) h =
    (suc b, IsGcd-swap (suc b) 0 _ (IsGcd-from_zero (suc b) 0 refl), λ k. IsGcd-swap (k * suc b) (k * 0) _ (IsGcd-from_zero (k * suc b) (k * 0) (omega arith)))
scaled zero (suc a) (suc b) h = absurd (omega arith)
scaled (suc n) (suc a) (suc b) h =
    ⊎_elim
    (λ (l : a < b).
    let s = scaled n (b - a) (suc a) (omega arith) in (
      s.0,
      IsGcd-swap (suc b) (suc a) s.0 (IsGcd-from_sub (suc b) (suc a) s.0 (omega arith) (let e : b - a ≡ suc b - suc a = omega arith in subst (λ x. IsGcd x (suc a) s.0) e s.1)),
      λ k.
          let e : k * (b - a) ≡ k * suc b - k * suc a = ap (λ x. k * x) (omega arith) ∙ mul-sub k (suc b) (suc a) in
          IsGcd-swap (k * suc b) (k * suc a) (k * s.0) (IsGcd-from_sub (k * suc b) (k * suc a) (k * s.0) (mul-le-mul_left k (omega arith)) (subst (λ x. IsGcd x (k * suc a) (k * s.0)) e (s.2 k))),
    ))
    (λ (l : b ≤ a).
    let s = scaled n (a - b) (suc b) (omega arith) in (
      s.0,
      IsGcd-from_sub (suc a) (suc b) s.0 (omega arith) (let e : a - b ≡ suc a - suc b = omega arith in subst (λ x. IsGcd x (suc b) s.0) e s.1),
      λ k.
          let e : k * (a - b) ≡ k * suc a - k * suc b = ap (λ x. k * x) (omega arith) ∙ mul-sub k (suc a) (suc b) in
          IsGcd-from_sub (k * suc a) (k * suc b) (k * s.0) (mul-le-mul_left k (omega arith)) (subst (λ x. IsGcd x (k * suc b) (k * s.0)) e (s.2 k)),
    ))
    (cases_lt a b)

pub has_gcd : (a b : ℕ) → (g : ℕ) × IsGcd a b g
has_gcd a b = let s = scaled (a + b) a b (omega arith) in (s.0, s.1)

-- what has no common divisor with a factor divides the other factor
pub dvd_of_coprime : (t b n : ℕ) → IsGcd t b 1 → t ∣ n * b → t ∣ n
dvd_of_coprime t b n h p =
    let s = scaled (t + b) t b (omega arith) in
    let e : n * s.0 ≡ n = ap (λ x. n * x) (same_from_IsGcd t b s.0 1 s.1 h) ∙ omega arith in
    let P : ℕ → Type 0 = λ x. t ∣ x in
    subst P e ((s.2 n).2 t (dvd-mul_left t n) p)

-- two pairs with no common divisor that have one ratio are one
pub same_lowest : (t b p q : ℕ) → IsGcd t b 1 → IsGcd p q 1 → t * q ≡ p * b → (t ≡ p) × (b ≡ q)
same_lowest t b p q g h e =
    let D : ℕ → ℕ → Type 0 = λ x y. x ∣ y in
    let t_p = dvd_of_coprime t b p g (subst (D t) e (dvd-mul_right t q)) in
    let p_t = dvd_of_coprime p q t h (subst (D p) (sym e) (dvd-mul_right p b)) in
    let b_q = dvd_of_coprime b t q (IsGcd-swap t b 1 g) (let f : p * b ≡ q * t = omega arith in subst (D b) f (dvd-mul_left b p)) in
    let q_b = dvd_of_coprime q p b (IsGcd-swap p q 1 h) (let f : t * q ≡ b * p = omega arith in subst (D q) f (dvd-mul_left q t)) in
    (dvd_antisymm t_p p_t, dvd_antisymm b_q q_b)

-- the greatest common divisor g of a and b, where b isn't 0, divides out and leaves no common divisor
module _ (a b g : ℕ) (h : IsGcd a b g) (some : 0 < b) where
  pub gcd_positive : 0 < g
  gcd_positive = pos_of_dvd_of_pos h.1 some

  pub lowest_same : a / g * b ≡ a * (b / g)
  lowest_same =
      let top = div-mul_cancel g h.0 in
      let bottom = div-mul_cancel g h.1 in
      let left = ap (λ x. a / g * x) bottom in
      let right = ap (λ x. x * (b / g)) top in
      omega arith

  pub lowest_positive : 0 < b / g
  lowest_positive = let bottom = div-mul_cancel g h.1 in ⊎_elim (λ (l : 0 < b / g). l) (λ (l : b / g ≤ 0). let e : b / g ≡ 0 = omega arith in let z = ap (λ x. x * g) e in absurd (omega arith)) (cases_lt 0 (b / g))

  pub lowest_gcd : IsGcd (a / g) (b / g) 1
  lowest_gcd =
      let top = div-mul_cancel g h.0 in
      let bottom = div-mul_cancel g h.1 in (
        one-dvd (a / g),
        one-dvd (b / g),
        λ d p q.
            let D : ℕ → Type 0 = λ x. d * g ∣ x in
            let all = h.2 (d * g) (subst D top (mul-dvd-mul_right d p g)) (subst D bottom (mul-dvd-mul_right d q g)) in
            let e : g ≡ 1 * g = omega arith in
            dvd_of_mul-dvd-mul_right d gcd_positive (subst (λ x. d * g ∣ x) e all),
      )

-- where t/d are the lowest terms of a/b, the least common multiple of a and b is a * d
module _ (a b t d : ℕ) (e : t * b ≡ a * d) (g : IsGcd t d 1) (some : 0 < a) where
  multiple_least : (k : ℕ) → a ∣ k → b ∣ k → a * d ∣ k
  multiple_least k p q =
      let x = k / a in
      let y = k / b in
      let by_a : a * x ≡ k = mul-div_cancel' a p in
      let by_b : b * y ≡ k = mul-div_cancel' b q in
      let left = ap (λ n. n * y) e in
      let right = ap (λ n. t * n) (by_a ∙ sym by_b) in
      let cross : x * t ≡ d * y = eq_of_mul-eq-mul_left a some (x * t) (d * y) (omega arith) in
      let D : ℕ → Type 0 = λ n. d ∣ n in
      let rest = dvd_of_coprime d t x (IsGcd-swap t d 1 g) (subst D (sym cross) (dvd-mul_right d y)) in
      let M : ℕ → Type 0 = λ n. a * d ∣ n in
      subst M by_a (mul-dvd-mul_left d a rest)

  pub made_multiple : (m : ℕ) → m ≡ a * d → IsLeastCommonMultiple a b m
  made_multiple m h = record {
    left = (let P : ℕ → Type 0 = λ n. a ∣ n in subst P (sym h) (dvd-mul_right a d));
    right = (let P : ℕ → Type 0 = λ n. b ∣ n in subst P (e ∙ sym h) (dvd-mul_left b t));
    least = λ k p q. let P : ℕ → Type 0 = λ n. n ∣ k in subst P (sym h) (multiple_least k p q);
  }

  pub multiple_exceeds : (most m : ℕ) → most < a * d → 0 < m → a ∣ m → b ∣ m → most < m
  multiple_exceeds most m over positive p q = let l = le_of_dvd positive (multiple_least m p q) in omega arith

  pub factor_exceeds : (most m : ℕ) → most < d → 0 < m → a ∣ m → b ∣ m → most < m
  factor_exceeds most m over = let l = mul-le-mul_right d some in multiple_exceeds most m (omega arith)

-- ---- whole numbers

pub divides_refl : (a : ℤ) → Divides a a
divides_refl a = (pos 1, omega (arith, ints))

pub divides_zero : (a : ℤ) → Divides a (pos 0)
divides_zero a = (pos 0, omega (arith, ints))

pub one_divides : (a : ℤ) → Divides (pos 1) a
one_divides a = (a, omega (arith, ints))

pub divides_trans : (a b c : ℤ) → Divides a b → Divides b c → Divides a c
divides_trans a b c p q = (p.0 *ℤ q.0, q.1 ∙ ap (λ x. x *ℤ q.0) p.1 ∙ int_mul_assoc a p.0 q.0)

pub divides_mul_right : (a b c : ℤ) → Divides a b → Divides a (b *ℤ c)
divides_mul_right a b c p = (p.0 *ℤ c, ap (λ x. x *ℤ c) p.1 ∙ int_mul_assoc a p.0 c)

pub divides_mul_left : (a b c : ℤ) → Divides a b → Divides a (c *ℤ b)
divides_mul_left a b c p = let P : ℤ → Type 0 = λ x. Divides a x in subst P (int_mul_comm b c) (divides_mul_right a b c p)

pub divides_neg : (a b : ℤ) → Divides a b → Divides a (neg_ℤ b)
divides_neg a b p = (neg_ℤ p.0, ap neg_ℤ p.1 ∙ sym (int_mul_neg a p.0))

pub divides_add : (a b c : ℤ) → Divides a b → Divides a c → Divides a (b +ℤ c)
divides_add a b c p q = (p.0 +ℤ q.0, ap (λ x. x +ℤ c) p.1 ∙ ap (λ x. a *ℤ p.0 +ℤ x) q.1 ∙ sym (int_mul_add a p.0 q.0))

pub divides_sub : (a b c : ℤ) → Divides a b → Divides a c → Divides a (b -ℤ c)
divides_sub a b c p q = divides_add a b (neg_ℤ c) p (divides_neg a c q)

-- ---- magnitudes

pub dvd_of_divides : (d n : ℤ) → Divides d n → unsigned_abs d ∣ unsigned_abs n
dvd_of_divides d n p =
    let e : unsigned_abs n ≡ unsigned_abs d * unsigned_abs p.0 = ap unsigned_abs p.1 ∙ unsigned_abs-mul d p.0 in
    let P : ℕ → Type 0 = λ x. unsigned_abs d ∣ x in
    subst P (sym e) (dvd-mul_right (unsigned_abs d) (unsigned_abs p.0))

-- a quotient of magnitudes, with the sign that makes the product right
times_quotient : (d n : ℤ) (q : ℕ) → unsigned_abs d * q ≡ unsigned_abs n → Divides d n
times_quotient (pos d) (pos n) q e = (pos q, omega (arith, ints))
times_quotient (pos d) (negsuc n) q e = (neg_ℤ (pos q), omega (arith, ints, int_mul_neg (pos d) (pos q)))
times_quotient (negsuc d) (pos n) q e = (neg_ℤ (pos q), omega (arith, ints, int_mul_neg (negsuc d) (pos q)))
times_quotient (negsuc d) (negsuc n) q e = (pos q, omega (arith, ints))

pub divides_of_dvd : (d n : ℤ) → unsigned_abs d ∣ unsigned_abs n → Divides d n
divides_of_dvd d n p = times_quotient d n (unsigned_abs n / unsigned_abs d) (mul-div_cancel' (unsigned_abs d) p)

-- a divisor of a positive number is at most that number
pub le_of_divides : (d n : ℤ) → Divides d n → pos 0 <ℤ n → d ≤ℤ n
le_of_divides d n p h =
    let some : 0 < unsigned_abs n = omega (arith, ints) in
    let le = le_of_dvd some (dvd_of_divides d n p) in
    omega (arith, ints)

-- two numbers that divide each other have one magnitude
pub same_magnitude : (a b : ℤ) → Divides a b → Divides b a → unsigned_abs a ≡ unsigned_abs b
same_magnitude a b p q = dvd_antisymm (dvd_of_divides a b p) (dvd_of_divides b a q)

-- the greatest common divisor of the magnitudes is that of the numbers
pub greatest_of_magnitudes : (a b : ℤ) (g : ℕ) → IsGcd (unsigned_abs a) (unsigned_abs b) g → IsGreatestCommonDivisor a b (pos g)
greatest_of_magnitudes a b g h = record {
  divides_left = divides_of_dvd (pos g) a h.0;
  divides_right = divides_of_dvd (pos g) b h.1;
  greatest = λ d p q. divides_of_dvd d (pos g) (h.2 (unsigned_abs d) (dvd_of_divides d a p) (dvd_of_divides d b q));
  not_negative = omega (arith, ints);
}

pub greatest_of_sizes : (a b : ℤ) (m n g : ℕ) (z : ℤ) → m ≡ unsigned_abs a → n ≡ unsigned_abs b → IsGcd m n g → z ≡ pos g → IsGreatestCommonDivisor a b z
greatest_of_sizes a b m n g z p q h e =
    let both = subst (λ x. IsGcd x (unsigned_abs b) g) p (subst (λ y. IsGcd m y g) q h) in
    let P : ℤ → Type 0 = λ x. IsGreatestCommonDivisor a b x in
    subst P (sym e) (greatest_of_magnitudes a b g both)

pub magnitudes_of_greatest : (a b : ℤ) (g : ℕ) → IsGreatestCommonDivisor a b (pos g) → IsGcd (unsigned_abs a) (unsigned_abs b) g
magnitudes_of_greatest a b g h = (
  dvd_of_divides (pos g) a h.divides_left,
  dvd_of_divides (pos g) b h.divides_right,
  λ d p q. dvd_of_divides (pos d) (pos g) (h.greatest (pos d) (divides_of_dvd (pos d) a p) (divides_of_dvd (pos d) b q)),
)

-- and there is one greatest common divisor
pub greatest_is_one : (a b g h : ℤ) → IsGreatestCommonDivisor a b g → IsGreatestCommonDivisor a b h → g ≡ h
greatest_is_one a b g h p q =
    let e = same_magnitude g h (q.greatest g p.divides_left p.divides_right) (p.greatest h q.divides_left q.divides_right) in
    omega (arith, ints)

-- ---- quotients

rem_of_divides : (a d : ℤ) → Divides d a → int_rem a d ≡ pos 0
rem_of_divides (pos a) d p = ap pos (mod-eq-zero_of_dvd (unsigned_abs d) (dvd_of_divides d (pos a) p))
rem_of_divides (negsuc a) d p = ap (λ n. neg_ℤ (pos n)) (mod-eq-zero_of_dvd (unsigned_abs d) (dvd_of_divides d (negsuc a) p))

-- the quotient by a divisor is exact
pub div-mul_of_divides : (a d : ℤ) → Divides d a → int_div a d *ℤ d ≡ a
div-mul_of_divides a d p = let whole = quot-rem a d in let rest = rem_of_divides a d p in omega (arith, ints)

-- and its magnitude is at most the number's
pub unsigned_abs-div_le : (a d : ℤ) → d ≢ pos 0 → Divides d a → unsigned_abs (int_div a d) ≤ unsigned_abs a
unsigned_abs-div_le a d some p =
    let e : unsigned_abs (int_div a d) * unsigned_abs d ≡ unsigned_abs a = sym (unsigned_abs-mul (int_div a d) d) ∙ ap unsigned_abs (div-mul_of_divides a d p) in
    let one : 1 ≤ unsigned_abs d = omega (arith, ints) in
    omega (arith, mul-le-mul_left (unsigned_abs (int_div a d)) one)

-- what the code's `a / d` gives
pub exact_quotient : (w : Width) (a d : ℤ) → unsigned_abs a < 2 ^ hbits w → unsigned_abs d < 2 ^ hbits w → d ≢ pos 0 → Divides d a → cast_signed w (cast_unsigned w (int_div (cast_signed w (cast_unsigned w a)) (cast_signed w (cast_unsigned w d)))) *ℤ d ≡ a
exact_quotient w a d p q some h =
    let size = unsigned_abs-div_le a d some h in
    ap (λ x. x *ℤ d) (quot_is w a d (fits_signed_from_abs w a p) (fits_signed_from_abs w d q) (fits_signed_from_abs w (int_div a d) (omega arith)))
    ∙ div-mul_of_divides a d h
