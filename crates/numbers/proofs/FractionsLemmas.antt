-- Fractions in lowest terms: made from magnitudes and a sign, and one for each value.
use Rattle.std.proofs.Common.{List, length, take, get_or, ◌+◌, ◌≡◌, ℕ, ◌*◌, ◌/◌, ◌^◌, ◌≤◌, ◌<◌, ◌⊎◌, ⊎_elim, true, false, refl, arith, ap, sym, ◌∙◌, subst}
use Rattle.std.specs.Prelude.{ℤ, pos, negsuc, neg_ℤ, ◌*ℤ◌, ◌<ℤ◌, ◌≢◌, unsigned_abs, int_lt}
use Rattle.std.specs.Int.{IsGcd, ◌∣◌}
use Rattle.std.specs.List.{All}
use Rattle.std.proofs.lemmas.List.{length-take, take-take, get_or-take}
use Rattle.std.proofs.lemmas.List.Elements.{All-nil, All-take, All-more, All-weaker}
use Rattle.std.proofs.lemmas.Int.{ints, unsigned_abs-mul}
use Rattle.std.proofs.Math.Nat.{div-le_self, eq_of_mul-eq-mul_right, mul-pos, pos_of_dvd_of_pos, dvd-mul_right, dvd-mul_left}
use Rattle.algebra.proofs.Products.{int_mul_assoc, int_mul_comm, int_neg_mul}
use Rattle.algebra.proofs.Order.{int_eq_of_mul_right}
use Rattle.numbers.specs.Divisors.{Divides}
use Rattle.numbers.specs.Fractions.{Fraction, IsLowest, IsReduced, HasValue, HasFraction, IsLeastCommonDenominator}
use Rattle.numbers.specs.inside.LowestTerms.{AreLowest, HasSign, IsLeastCommonMultiple}
use Rattle.numbers.proofs.DivisorsLemmas.{has_gcd, lowest_same, lowest_positive, lowest_gcd, one_divides, divides_trans, divides_of_dvd, dvd_of_divides, greatest_of_magnitudes, magnitudes_of_greatest, same_lowest}

not_below : (n : ℕ) → int_lt (pos n) (pos 0) ≡ false
not_below n = let e : false ≡ int_lt (pos n) (pos 0) = omega (arith, ints) in sym e

below : (n : ℕ) → int_lt (negsuc n) (pos 0) ≡ true
below n = refl

signs_differ : (m n : ℕ) → int_lt (pos m) (pos 0) ≢ int_lt (negsuc n) (pos 0)
signs_differ m n e = let p = not_below m in let q = below n in cc

pub signed_value : (n : ℤ) (t b : ℕ) (z w : ℤ) → HasSign n t z w → t * unsigned_abs w ≡ unsigned_abs z * b → n *ℤ w ≡ z *ℤ pos b
signed_value n t b (pos z) (pos w) h e = ap (λ x. x *ℤ pos w) (h.same (not_below z ∙ sym (not_below w))) ∙ omega (arith, ints)
signed_value n t b (negsuc z) (negsuc w) h e = ap (λ x. x *ℤ negsuc w) (h.same (below z ∙ sym (below w))) ∙ omega (arith, ints)
signed_value n t b (pos z) (negsuc w) h e = ap (λ x. x *ℤ negsuc w) (h.other (signs_differ z w)) ∙ omega (arith, ints, int_neg_mul (pos t) (negsuc w))
signed_value n t b (negsuc z) (pos w) h e = ap (λ x. x *ℤ pos w) (h.other (λ e. signs_differ w z (sym e))) ∙ omega (arith, ints, int_neg_mul (pos t) (pos w))

pub signed_magnitude : (n : ℤ) (t : ℕ) (z w : ℤ) → HasSign n t z w → unsigned_abs n ≡ t
signed_magnitude n t (pos z) (pos w) h = ap unsigned_abs (h.same (not_below z ∙ sym (not_below w)))
signed_magnitude n t (negsuc z) (negsuc w) h = ap unsigned_abs (h.same (below z ∙ sym (below w)))
signed_magnitude n t (pos z) (negsuc w) h = let s = h.other (signs_differ z w) in omega (arith, ints)
signed_magnitude n t (negsuc z) (pos w) h = let s = h.other (λ e. signs_differ w z (sym e)) in omega (arith, ints)

-- the fraction of a signed numerator and a denominator of the lowest magnitudes has the value, and is reduced
pub made_value : (t d : ℕ) (z w n m : ℤ) → AreLowest t d z w → HasSign n t z w → m ≡ pos d → HasValue (record { num = n; den = m }) z w
made_value t d z w n m h sign e = record { defined = h.defined; same = signed_value n t d z w sign h.same ∙ ap (λ x. z *ℤ x) (sym e) }

pub made_reduced : (t d : ℕ) (z w n m : ℤ) → AreLowest t d z w → HasSign n t z w → m ≡ pos d → t < 2 ^ 127 → d < 2 ^ 127 → IsReduced (record { num = n; den = m })
made_reduced t d z w n m h sign e p q =
    let size = signed_magnitude n t z w sign in
    let some = h.positive in
    let width : unsigned_abs m ≡ d = ap unsigned_abs e in
    let g : IsGcd (unsigned_abs n) (unsigned_abs m) 1 = subst (λ x. IsGcd x (unsigned_abs m) 1) (sym size) (subst (λ x. IsGcd t x 1) (sym width) h.lowest) in
    record {
      lowest = record { positive = omega (arith, ints); coprime = greatest_of_magnitudes n m 1 g };
      num_in_range = omega arith;
      den_in_range = omega arith;
    }

-- and every fraction in lowest terms of that value has these magnitudes
pub magnitudes_of_lowest : (t d : ℕ) (z w : ℤ) (f : Fraction) → AreLowest t d z w → IsLowest f → HasValue f z w → (unsigned_abs f.num ≡ t) × (unsigned_abs f.den ≡ d)
magnitudes_of_lowest t d z w f h p v =
    let p_w : unsigned_abs f.num * unsigned_abs w ≡ unsigned_abs z * unsigned_abs f.den = sym (unsigned_abs-mul f.num w) ∙ ap unsigned_abs v.same ∙ unsigned_abs-mul z f.den in
    let first = ap (λ x. x * d) p_w in
    let second = ap (λ x. x * unsigned_abs f.den) h.same in
    let some : 0 < unsigned_abs w = let x = h.defined in omega (arith, ints) in
    let ratio : unsigned_abs f.num * d ≡ t * unsigned_abs f.den = eq_of_mul-eq-mul_right (unsigned_abs w) some (unsigned_abs f.num * d) (t * unsigned_abs f.den) (omega arith) in
    same_lowest (unsigned_abs f.num) (unsigned_abs f.den) t d (magnitudes_of_greatest f.num f.den 1 p.coprime) h.lowest ratio

pub no_fraction : (t d : ℕ) (z w : ℤ) → AreLowest t d z w → (2 ^ 127 ≤ t) ⊎ (2 ^ 127 ≤ d) → HasFraction z w → ⊥
no_fraction t d z w h out found =
    let m = magnitudes_of_lowest t d z w found.0 h found.1.lowest found.2 in
    let num = found.1.num_in_range in
    let den = found.1.den_in_range in
    let first = m.0 in
    let second = m.1 in
    ⊎_elim (λ (l : 2 ^ 127 ≤ t). absurd (omega arith)) (λ (l : 2 ^ 127 ≤ d). absurd (omega arith)) out

-- a magnitude with the sign of a fraction
signed_as : (t : ℕ) (z w : ℤ) → (n : ℤ) × HasSign n t z w
signed_as t (pos z) (pos w) = (pos t, record { same = λ _. refl; other = λ h. absurd (h (not_below z ∙ sym (not_below w))) })
signed_as t (negsuc z) (negsuc w) = (pos t, record { same = λ _. refl; other = λ h. absurd (h (below z ∙ sym (below w))) })
signed_as t (pos z) (negsuc w) = (neg_ℤ (pos t), record { same = λ e. absurd (signs_differ z w e); other = λ _. refl })
signed_as t (negsuc z) (pos w) = (neg_ℤ (pos t), record { same = λ e. absurd (signs_differ w z (sym e)); other = λ _. refl })

-- a denominator that isn't 0 has lowest terms under every numerator, and these are in range where both numbers are
pub has_fraction : (z w : ℤ) → w ≢ pos 0 → unsigned_abs z < 2 ^ 127 → unsigned_abs w < 2 ^ 127 → HasFraction z w
has_fraction z w defined p q =
    let a = unsigned_abs z in
    let b = unsigned_abs w in
    let some : 0 < b = omega (arith, ints) in
    let r = has_gcd a b in
    let g = r.0 in
    let low : AreLowest (a / g) (b / g) z w = record {
      defined = defined;
      same = lowest_same a b g r.1 some;
      lowest = lowest_gcd a b g r.1 some;
      positive = lowest_positive a b g r.1 some;
    } in
    let n = signed_as (a / g) z w in
    let fit_t : a / g < 2 ^ 127 = omega (arith, div-le_self a g) in
    let fit_d : b / g < 2 ^ 127 = omega (arith, div-le_self b g) in (
      record { num = n.0; den = pos (b / g) },
      made_reduced (a / g) (b / g) z w n.0 (pos (b / g)) low n.1 refl fit_t fit_d,
      made_value (a / g) (b / g) z w n.0 (pos (b / g)) low n.1 refl,
    )

-- two fractions in lowest terms of one value are one
same_parts : (f g : Fraction) → f.num ≡ g.num → f.den ≡ g.den → f ≡ g
same_parts f g p q = λ i. record { num = p i; den = q i }

pub same_lowest_fraction : (f g : Fraction) → IsLowest f → IsLowest g → f.num *ℤ g.den ≡ g.num *ℤ f.den → f ≡ g
same_lowest_fraction f g p q e =
    let magnitudes : unsigned_abs f.num * unsigned_abs g.den ≡ unsigned_abs g.num * unsigned_abs f.den = sym (unsigned_abs-mul f.num g.den) ∙ ap unsigned_abs e ∙ unsigned_abs-mul g.num f.den in
    let both = same_lowest (unsigned_abs f.num) (unsigned_abs f.den) (unsigned_abs g.num) (unsigned_abs g.den) (magnitudes_of_greatest f.num f.den 1 p.coprime) (magnitudes_of_greatest g.num g.den 1 q.coprime) magnitudes in
    let first = p.positive in
    let second = q.positive in
    let size = both.1 in
    let dens : f.den ≡ g.den = omega (arith, ints) in
    let some : f.den ≢ pos 0 = λ z. omega (arith, ints) in
    same_parts f g (int_eq_of_mul_right f.num g.num f.den some (ap (λ x. f.num *ℤ x) dens ∙ e)) dens

swap_last : (a b c : ℤ) → a *ℤ b *ℤ c ≡ a *ℤ c *ℤ b
swap_last a b c = int_mul_assoc a b c ∙ ap (λ x. a *ℤ x) (int_mul_comm b c) ∙ sym (int_mul_assoc a c b)

pub same_value_fraction : (f g : Fraction) (z w : ℤ) → IsLowest f → IsLowest g → HasValue f z w → HasValue g z w → f ≡ g
same_value_fraction f g z w p q u v =
    let left : f.num *ℤ g.den *ℤ w ≡ z *ℤ f.den *ℤ g.den = swap_last f.num g.den w ∙ ap (λ x. x *ℤ g.den) u.same in
    let right : g.num *ℤ f.den *ℤ w ≡ z *ℤ g.den *ℤ f.den = swap_last g.num f.den w ∙ ap (λ x. x *ℤ f.den) v.same in
    same_lowest_fraction f g p q (int_eq_of_mul_right (f.num *ℤ g.den) (g.num *ℤ f.den) w u.defined (left ∙ swap_last z f.den g.den ∙ sym right))

-- ---- common denominators

pub common_of_none : (xs : List Fraction) → IsLeastCommonDenominator (take 0 xs) (pos 1)
common_of_none xs = record {
  positive = omega (arith, ints);
  common = All-nil (λ f. Divides f.den (pos 1));
  least = λ k h. one_divides k;
}

-- what holds of the front of a list and one more element
front : (P : Fraction → Type 0) (xs : List Fraction) (i : ℕ) (d : Fraction) → i < length xs → All P (take (i + 1) xs) → All P (take i xs) × P (get_or xs i d)
front P xs i d l h =
    let Q : List Fraction → Type 0 = λ ys. All P ys in
    let long : i < length (take (i + 1) xs) = omega (arith, length-take (i + 1) xs) in (
      subst Q (take-take i (i + 1) xs (omega arith)) (All-take P i (take (i + 1) xs) h),
      subst P (get_or-take (i + 1) xs i d (omega arith)) (h i d long),
    )

-- c is the least common denominator of the first i fractions, s is the next denominator, f
module _ (xs : List Fraction) (i c s : ℕ) (f : Fraction) (l : i < length xs) (here : f ≡ get_or xs i f) (den : pos s ≡ f.den) (some : 0 < s) (h : IsLeastCommonDenominator (take i xs) (pos c)) where
  magnitudes : (k : ℤ) → All (λ x. Divides x.den k) (take (i + 1) xs) → (c ∣ unsigned_abs k) × (s ∣ unsigned_abs k)
  magnitudes k all =
      let parts = front (λ x. Divides x.den k) xs i f l all in
      let P : Fraction → Type 0 = λ x. Divides x.den k in
      let D : ℤ → Type 0 = λ x. Divides x k in (
        dvd_of_divides (pos c) k (h.least k parts.0),
        dvd_of_divides (pos s) k (subst D (sym den) (subst P (sym here) parts.1)),
      )

  pub common_more : (m : ℕ) → IsLeastCommonMultiple c s m → IsLeastCommonDenominator (take (i + 1) xs) (pos m)
  common_more m g =
      let one = h.positive in
      let base : 0 < c = omega (arith, ints) in
      let product : 0 < c * s = mul-pos base some in
      let positive = pos_of_dvd_of_pos (g.least (c * s) (dvd-mul_right c s) (dvd-mul_left s c)) product in
      let P : Fraction → Type 0 = λ x. Divides x.den (pos m) in
      let D : ℤ → Type 0 = λ x. Divides x (pos m) in
      record {
        positive = omega (arith, ints);
        common = All-more P xs i f l (All-weaker (λ x. Divides x.den (pos c)) P (λ x p. divides_trans x.den (pos c) (pos m) p (divides_of_dvd (pos c) (pos m) g.left)) (take i xs) h.common) (subst P here (subst D den (divides_of_dvd (pos s) (pos m) g.right)));
        least = λ k all. let q = magnitudes k all in divides_of_dvd (pos m) k (g.least (unsigned_abs k) q.0 q.1);
      }

  pub common_exceeds : (most : ℕ) → ((m : ℕ) → 0 < m → c ∣ m → s ∣ m → most < m) → (m : ℤ) → IsLeastCommonDenominator xs m → pos most <ℤ m
  common_exceeds most over m g =
      let one = g.positive in
      let size : 0 < unsigned_abs m = omega (arith, ints) in
      let q = magnitudes m (All-take (λ x. Divides x.den m) (i + 1) xs g.common) in
      let more = over (unsigned_abs m) size q.0 q.1 in
      omega (arith, ints)
