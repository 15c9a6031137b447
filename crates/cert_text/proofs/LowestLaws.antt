-- A fraction is in lowest terms exactly where no number from 2 on divides both its terms.
use Rattle.std.proofs.Common.{◌≡◌, inl, inr, ℕ, zero, suc, ◌%◌, ◌≤◌, ◌<◌, ◌^◌, Bool, true, false, ◌&&◌, ◌||◌, not, ◌==◌, Option, Some, None, ℤ, pos, negsuc, ◌≤ℤ◌, unsigned_abs, refl, sym, ap, subst, ◌∙◌, arith, eqb-true, eq-eqb, List, ◌∷◌}
use Rattle.std.specs.Int.{IsGcd, ◌∣◌}
use Rattle.std.specs.Borrow.{Bor}
use Rattle.std.specs.Option.{is_some}
use Rattle.std.proofs.lemmas.Int.{ints}
use Rattle.std.proofs.lemmas.Bool.{and_parts, and_from, cond-true, cond-false, cases_Bool, cases_eq, ne_eqb}
use Rattle.std.proofs.Math.Nat.{le_of_dvd, mod-eq-zero_of_dvd, dvd_of_mod-eq-zero, one-dvd}
use Rattle.algebra.specs.Scale.{greatest_scale}
use Rattle.numbers.specs.Fractions.{Fraction, IsLowest, IsReduced, HasValue}
use Rattle.numbers.proofs.DivisorsLemmas.{greatest_of_magnitudes, magnitudes_of_greatest}
use Rattle.text_parts.specs.Words.{parts_between, further_parts}
use Rattle.text_parts.proofs.PartsLemmas.{first_part}
use Rattle.cert_text.specs.WordForms.{two_words}
use Rattle.cert_text.specs.Fractions.{has_no_divisor, lowest}

none_divides : (a b k d : ℕ) → has_no_divisor a b k ≡ true → 2 ≤ d → d ≤ k → d ∣ a → d ∣ b → ⊥
none_divides a b zero d e two le p q = absurd (omega (arith, two, le))
none_divides a b (suc k) d e two le p q =
    let parts = and_parts (k == 0 || not ((a % suc k) == 0 && (b % suc k) == 0)) (has_no_divisor a b k) e in
    elim (cases_eq d (suc k)) [
      | inl same ↦
          let zero_a : a % suc k ≡ 0 = subst (λ n. a % n ≡ 0) same (mod-eq-zero_of_dvd d p) in
          let zero_b : b % suc k ≡ 0 = subst (λ n. b % n ≡ 0) same (mod-eq-zero_of_dvd d q) in
          let both : ((a % suc k) == 0 && (b % suc k) == 0) ≡ true = and_from _ _ (eq-eqb (a % suc k) 0 zero_a) (eq-eqb (b % suc k) 0 zero_b) in
          let some : (k == 0) ≡ false = ne_eqb k 0 (λ none. omega (arith, none, same, two)) in
          let wrong : (false || not true) ≡ true = subst (λ t. (false || not t) ≡ true) both (subst (λ t. (t || not ((a % suc k) == 0 && (b % suc k) == 0)) ≡ true) some parts.0) in
          cc
      | inr other ↦ none_divides a b k d parts.1 two (omega (arith, le, other)) p q
    ]

or_left : (t u : Bool) → t ≡ true → (t || u) ≡ true
or_left true u e = refl
or_left false u e = cc

or_right : (t u : Bool) → u ≡ true → (t || u) ≡ true
or_right true u e = refl
or_right false u e = e

not_both : (a b k : ℕ) → ((d : ℕ) → 2 ≤ d → d ∣ a → d ∣ b → ⊥) → (k == 0 || not ((a % suc k) == 0 && (b % suc k) == 0)) ≡ true
not_both a b zero none = refl
not_both a b (suc k) none =
    elim (cases_Bool ((a % suc (suc k)) == 0 && (b % suc (suc k)) == 0)) [
      | inl yes' ↦
          let parts = and_parts ((a % suc (suc k)) == 0) ((b % suc (suc k)) == 0) yes' in
          absurd (none (suc (suc k)) (omega arith) (dvd_of_mod-eq-zero (suc (suc k)) (eqb-true _ _ parts.0)) (dvd_of_mod-eq-zero (suc (suc k)) (eqb-true _ _ parts.1)))
      | inr no' ↦ or_right (suc k == 0) _ (ap not no')
    ]

has_none : (a b k : ℕ) → ((d : ℕ) → 2 ≤ d → d ∣ a → d ∣ b → ⊥) → has_no_divisor a b k ≡ true
has_none a b zero none = refl
has_none a b (suc k) none = and_from _ _ (not_both a b k none) (has_none a b k none)

abbrev pub terms : ℤ → ℤ → Fraction
terms num den = record { num = num; den = den }

positive : (den : ℤ) → pos 1 ≤ℤ den → 0 < unsigned_abs den
positive (pos n) h = omega (arith, ints, h)
positive (negsuc n) h = absurd (omega (arith, ints, h))

-- a common divisor of numbers without one from 2 on
only_one : (a b d : ℕ) → 0 < b → has_no_divisor a b b ≡ true → d ∣ a → d ∣ b → d ≡ 1
only_one a b zero some e p q = absurd (let le = le_of_dvd some q in let none = mod-eq-zero_of_dvd zero q in grind arith)
only_one a b (suc zero) some e p q = refl
only_one a b (suc (suc d)) some e p q = absurd (none_divides a b b (suc (suc d)) e (omega arith) (le_of_dvd some q) p q)

is_gcd_one : (a b : ℕ) → 0 < b → has_no_divisor a b b ≡ true → IsGcd a b 1
is_gcd_one a b some e = (one-dvd a, one-dvd b, λ d p q. subst (λ n. n ∣ 1) (sym (only_one a b d some e p q)) (one-dvd 1))

lowest_terms : (num den : ℤ) → pos 1 ≤ℤ den → has_no_divisor (unsigned_abs num) (unsigned_abs den) (unsigned_abs den) ≡ true → IsLowest (terms num den)
lowest_terms num den one e =
    record { positive = one; coprime = greatest_of_magnitudes num den 1 (is_gcd_one (unsigned_abs num) (unsigned_abs den) (positive den one) e) }

terms_lowest : (num den : ℤ) → IsLowest (terms num den) → has_no_divisor (unsigned_abs num) (unsigned_abs den) (unsigned_abs den) ≡ true
terms_lowest num den h =
    let gcd = magnitudes_of_greatest num den 1 h.coprime in
    has_none (unsigned_abs num) (unsigned_abs den) (unsigned_abs den) (λ d two p q. let le = le_of_dvd (omega arith) (gcd.2 d p q) in omega (arith, two, le))

-- what is found is in lowest terms
pub lowest_is : (num den : ℤ) (f : Fraction) → pos 1 ≤ℤ den → lowest num den ≡ Some f → (terms num den ≡ f) × IsLowest f
unfolding lowest
lowest_is num den f one e =
    elim (cases_Bool (has_no_divisor (unsigned_abs num) (unsigned_abs den) (unsigned_abs den))) [
      | inl yes' ↦
          let same : Some (terms num den) ≡ Some f = sym (cond-true _ (Some (terms num den)) None yes') ∙ e in
          let is : terms num den ≡ f = cc in
          (is, subst IsLowest is (lowest_terms num den one yes'))
      | inr no' ↦ let none : None ≡ Some f = sym (cond-false _ (Some (terms num den)) None no') ∙ e in cc
    ]

pub is_lowest : (f : Fraction) → IsLowest f → lowest f.num f.den ≡ Some f
unfolding lowest
is_lowest f h = cond-true _ (Some f) None (terms_lowest f.num f.den h)

-- a reduced fraction of these terms
pub lowest_found : (f : Fraction) (num den : ℤ) → IsReduced f → (f.num ≡ num) × (f.den ≡ den) → Some f ≡ lowest num den
lowest_found f num den r same =
    let P : ℤ → ℤ → Type 0 = λ n d. Some f ≡ lowest n d in
    subst (λ n. P n den) same.0 (subst (λ d. P f.num d) same.1 (sym (is_lowest f r.lowest)))

-- a reduced fraction of this value with other terms
pub lowest_other : (f : Fraction) (num den : ℤ) → pos 1 ≤ℤ den → unsigned_abs num < 2 ^ 127 → unsigned_abs den < 2 ^ 127 → ((other : Fraction) → IsReduced other → HasValue other num den → other ≡ f) → ((f.num ≡ num) × (f.den ≡ den) → ⊥) → None ≡ lowest num den
unfolding lowest
lowest_other f num den one n d only other =
    elim (cases_Bool (has_no_divisor (unsigned_abs num) (unsigned_abs den) (unsigned_abs den))) [
      | inl yes' ↦
          let reduced : IsReduced (terms num den) = record { lowest = lowest_terms num den one yes'; num_in_range = n; den_in_range = d } in
          let value : HasValue (terms num den) num den = record { defined = λ z. absurd (omega (arith, ints)); same = refl } in
          let same = only (terms num den) reduced value in
          absurd (other (ap (λ (g : Fraction). g.num) (sym same), ap (λ (g : Fraction). g.den) (sym same)))
      | inr no' ↦ sym (cond-false _ (Some (terms num den)) None no')
    ]

-- more than two parts
pub three_parts : (word num rest den : List ℕ) (more : Option (Bor (List ℕ))) → parts_between 47 word ≡ num ∷ parts_between 47 rest → parts_between 47 rest ≡ den ∷ further_parts 47 more → is_some more ≡ true → None ≡ two_words (parts_between 47 word)
three_parts word num rest den None p q e = cc
three_parts word num rest den (Some m) p q e =
    let behind = first_part (λ b. b == 47) m.now in
    sym (ap two_words (p ∙ ap (λ ps. num ∷ ps) (q ∙ ap (λ ps. den ∷ ps) behind.2)))

pub den_small : (den : ℤ) → pos 1 ≤ℤ den → den ≤ℤ pos greatest_scale → unsigned_abs den < 2 ^ 127
den_small (pos n) one most = omega (arith, ints, most)
den_small (negsuc n) one most = absurd (omega (arith, ints, one))
