-- A numeral is what `decimal` writes of its value, and what it writes of a short number is a numeral.
use Rattle.std.proofs.Common.{◌≡◌, ◌≢◌, ℕ, ◌+◌, ◌*◌, ◌/◌, ◌%◌, ◌^◌, ◌<◌, ◌≤◌, true, false, List, [], ◌∷◌, ◌++◌, length, take, get_or, refl, sym, ap, ap₂, inl, inr, ◌==◌, nat_lt, ◌∙◌, arith, rules, append_assoc}
use Rattle.std.specs.List.{list_all}
use Rattle.std.specs.Char.{is_ascii_digit, digit_value}
use Rattle.std.specs.Str.Parse.{AllDigits, digits_value, digits_value_after}
use Rattle.std.specs.Fmt.{decimal}
use Rattle.std.proofs.lemmas.List.{append-nil, length_push, get_or_append_left}
use Rattle.std.proofs.lemmas.Bool.{and_parts, and_from, not-true, not_from_false, leb-true, le-leb, lt-ltb, and_cases, eqb-false, ne_eqb, false≢true, cases_lt, and_left, and_right, le-ltb}
use Rattle.std.proofs.lemmas.Str.{digit_value_digit}
use Rattle.std.proofs.lemmas.Str.Parse.{IsNumeralModel, numerals_by_value, digit_from_value, digits_value_short, digits_value-take-le, digit_at}
use Rattle.std.proofs.lemmas.Fmt.{decimal_step_wide, decimal_digit, decimal_by_steps_wide, decimal_is_IsNumeral_wide, length-decimal-le_wide}
use Rattle.text_parts.specs.Decimal.{is_numeral, is_digit_count, has_leading_zero}

own : IsNumeralModel (λ ds. list_all is_ascii_digit ds ≡ true) (digits_value 10)
own = numerals_by_value (λ ds. list_all is_ascii_digit ds ≡ true) (search rules)

-- digits raise the number before them
le_after : (n : ℕ) (ds : List ℕ) → n ≤ digits_value_after 10 n ds
le_after n [] = omega arith
le_after n (c ∷ cs) = omega (arith, le_after (n * 10 + digit_value c) cs)

digit_is : (c : ℕ) → digit_value c < 10 → 48 + digit_value c ≡ c
digit_is c h = omega (arith, digit_value_digit c (digit_from_value c h))

-- digits behind a number other than 0 stand behind its spelling
decimal_after : (n : ℕ) (ds : List ℕ) → 1 ≤ n → AllDigits 10 ds → digits_value_after 10 n ds < 10 ^ 64 → decimal (digits_value_after 10 n ds) ≡ decimal n ++ ds
decimal_after n [] h a b = sym (append-nil (decimal n))
decimal_after n (c ∷ cs) h a b =
    let v = n * 10 + digit_value c in
    let more = decimal_after v cs (omega arith) a.1 b in
    let step = decimal_step_wide v (omega arith) (omega (arith, le_after v cs)) in
    let front : v / 10 ≡ n = omega (arith, a.0) in
    let last : 48 + v % 10 ≡ c = omega (arith, a.0, digit_is c a.0) in
    more ∙ ap (λ t. t ++ cs) (step ∙ ap₂ (λ m d. decimal m ++ (d ∷ [])) front last) ∙ append_assoc (decimal n) (c ∷ []) cs

-- the facts of a numeral
digits_of_numeral : (ds : List ℕ) → is_numeral ds ≡ true → AllDigits 10 ds
digits_of_numeral ds e = own.to ds (and_parts _ _ e).0

pub length_of_numeral : (ds : List ℕ) → is_numeral ds ≡ true → (1 ≤ length ds) × (length ds ≤ 30)
length_of_numeral ds e =
    let counts = and_parts _ _ (and_parts (is_digit_count (length ds)) _ (and_parts _ _ e).1).0 in
    (leb-true 1 (length ds) counts.0, leb-true (length ds) 30 counts.1)

-- the value of the first digits of a numeral is short
pub value_short : (ds : List ℕ) (i : ℕ) → is_numeral ds ≡ true → digits_value 10 (take i ds) < 10 ^ 30
value_short ds i e =
    let all = digits_value_short own ds 30 (and_parts _ _ e).0 (length_of_numeral ds e).1 in
    omega (arith, all, digits_value-take-le 10 ds i (omega arith))

-- what a digit of a numeral stands for
pub digit_of_numeral : (ds : List ℕ) (i : ℕ) → is_numeral ds ≡ true → i < length ds → (48 ≤ get_or ds i 0) × (get_or ds i 0 < 58) × (digit_value (get_or ds i 0) + 48 ≡ get_or ds i 0)
digit_of_numeral ds i e lt =
    let range = digit_at ds i (digits_of_numeral ds e) lt in (range.0, omega (arith, range.1), digit_value_digit (get_or ds i 0) range)

decimal-of-digits : (ds : List ℕ) → AllDigits 10 ds → 1 ≤ length ds → has_leading_zero ds ≡ false → digits_value 10 ds < 10 ^ 64 → decimal (digits_value 10 ds) ≡ ds
decimal-of-digits [] a l z b = absurd (omega (arith, l))
decimal-of-digits (c ∷ []) a l z b =
    let first : 0 * 10 + digit_value c ≡ digit_value c = omega arith in
    ap decimal first ∙ decimal_digit (digit_value c) a.0 ∙ ap (λ d. d ∷ []) (digit_is c a.0)
decimal-of-digits (c ∷ d ∷ ds) a l z b =
    let first : 0 * 10 + digit_value c ≡ digit_value c = omega arith in
    let nonzero : c ≡ 48 → ⊥ = eqb-false c 48 (elim (and_cases (nat_lt 1 (length (c ∷ d ∷ ds))) (c == 48) z) [
      | inl no' ↦ absurd (false≢true (sym no' ∙ lt-ltb 1 (length (c ∷ d ∷ ds)) (omega arith)))
      | inr yes' ↦ yes'
    ]) in
    let positive : 1 ≤ 0 * 10 + digit_value c = omega (arith, digit_is c a.0, nonzero) in
    decimal_after (0 * 10 + digit_value c) (d ∷ ds) positive a.1 b
    ∙ ap (λ t. t ++ (d ∷ ds)) (ap decimal first ∙ decimal_digit (digit_value c) a.0 ∙ ap (λ e. e ∷ []) (digit_is c a.0))

no_leading_zero : (ds : List ℕ) → is_numeral ds ≡ true → has_leading_zero ds ≡ false
no_leading_zero ds e = not-true (has_leading_zero ds) (and_parts (is_digit_count (length ds)) _ (and_parts _ _ e).1).1

pub numeral_short : (ds : List ℕ) → is_numeral ds ≡ true → digits_value 10 ds < 10 ^ 30
numeral_short ds e = digits_value_short own ds 30 (and_parts _ _ e).0 (length_of_numeral ds e).1

-- a numeral is what `decimal` writes of its value
pub decimal-numeral : (ds : List ℕ) → is_numeral ds ≡ true → decimal (digits_value 10 ds) ≡ ds
decimal-numeral ds e =
    decimal-of-digits ds (digits_of_numeral ds e) (length_of_numeral ds e).0 (no_leading_zero ds e) (omega (arith, numeral_short ds e))

-- of the spelling of a number: it has a byte, the first is 0 at no number but 0, and a digit alone is one byte
record IsPlain (n : ℕ) (ds : List ℕ) : Type 0 where
  some : 0 < length ds
  first : 1 ≤ n → get_or ds 0 0 ≢ 48
  alone : n < 10 → length ds ≡ 1

plain_more : (n : ℕ) (ds : List ℕ) → 10 ≤ n → IsPlain (n / 10) ds → IsPlain n (ds ++ ((48 + n % 10) ∷ []))
plain_more n ds h p = record {
  some = omega (arith, length_push ds (48 + n % 10));
  first = λ k e. p.first (omega arith) (sym (get_or_append_left ds ((48 + n % 10) ∷ []) 0 0 p.some) ∙ e);
  alone = λ k. absurd (omega (arith, k));
}

plain_one : (n : ℕ) → n < 10 → IsPlain n ((48 + n) ∷ [])
plain_one n h = record { some = omega arith; first = λ k e. omega (arith, k, e); alone = λ _. refl }

decimal_plain : (n : ℕ) → n < 10 ^ 64 → IsPlain n (decimal n)
decimal_plain n h = decimal_by_steps_wide IsPlain plain_one plain_more n h

plain_leading : (n : ℕ) (ds : List ℕ) → IsPlain n ds → has_leading_zero ds ≡ false
plain_leading n ds p =
    elim (cases_lt n 10) [
      | inl small ↦ and_left _ _ (le-ltb 1 (length ds) (omega (arith, p.alone small)))
      | inr large ↦ and_right _ _ (ne_eqb (get_or ds 0 0) 48 (p.first (omega arith)))
    ]

-- what `decimal` writes of a short number is a numeral of it
pub numeral-decimal : (n : ℕ) → n < 10 ^ 30 → (is_numeral (decimal n) ≡ true) × (digits_value 10 (decimal n) ≡ n)
numeral-decimal n h =
    let wide : n < 10 ^ 64 = omega arith in
    let numeral = decimal_is_IsNumeral_wide n wide in
    let plain = decimal_plain n wide in
    let count : is_digit_count (length (decimal n)) ≡ true =
    and_from _ _ (le-leb 1 (length (decimal n)) (omega (arith, plain.some))) (le-leb (length (decimal n)) 30 (length-decimal-le_wide 30 n (omega arith) h wide)) in
    let unled = not_from_false (has_leading_zero (decimal n)) (plain_leading n (decimal n) plain) in
    (and_from _ _ (own.from (decimal n) numeral.0.1) (and_from _ _ count unled), numeral.1)
