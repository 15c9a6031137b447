-- The whole number that bytes spell has these bytes as its spelling, and a short number is read from its spelling.
use Rattle.std.proofs.Common.{◌≡◌, ℕ, ◌^◌, ◌<◌, zero, suc, ℤ, pos, negsuc, true, false, Option, Some, None, List, [], ◌∷◌, refl, sym, ap, ap₂, subst, inl, inr, ◌==◌, ◌∙◌, arith}
use Rattle.std.specs.Option.{option_map, option_and_then}
use Rattle.std.specs.Str.Parse.{digits_value}
use Rattle.std.specs.Fmt.{decimal, signed_decimal}
use Rattle.std.proofs.lemmas.Bool.{cases_Bool, cond-true, cond-false, eqb-true, ne_eqb}
use Rattle.text_parts.specs.Decimal.{is_numeral, natural_of, negative_of, whole_of, IsShort, Spells}
use Rattle.text_parts.proofs.DecimalLemmas.{decimal-numeral, numeral-decimal, numeral_short, digit_of_numeral, length_of_numeral}

-- the number of a numeral, and none of other bytes
natural-numeral : (ds : List ℕ) → is_numeral ds ≡ true → natural_of ds ≡ Some (digits_value 10 ds)
unfolding natural_of
natural-numeral ds e = cond-true (is_numeral ds) _ _ e

natural-other : (ds : List ℕ) → is_numeral ds ≡ false → natural_of ds ≡ None
unfolding natural_of
natural-other ds e = cond-false (is_numeral ds) _ _ e

natural-decimal : (n : ℕ) → n < 10 ^ 30 → natural_of (decimal n) ≡ Some n
natural-decimal n h =
    let numeral = numeral-decimal n h in natural-numeral (decimal n) numeral.0 ∙ ap (λ m. Some m) numeral.1

decimal-natural : (ds : List ℕ) (n : ℕ) → natural_of ds ≡ Some n → (n < 10 ^ 30) × (ds ≡ decimal n)
decimal-natural ds n e =
    elim (cases_Bool (is_numeral ds)) [
      | inl yes' ↦
          let value : digits_value 10 ds ≡ n = cc (natural-numeral ds yes') in
          (omega (arith, value, numeral_short ds yes'), sym (decimal-numeral ds yes') ∙ ap decimal value)
      | inr no' ↦ cc (natural-other ds no')
    ]

-- a numeral begins with no minus
plain_start : (b : ℕ) (bs : List ℕ) (n : ℕ) → n < 10 ^ 30 → decimal n ≡ b ∷ bs → (b == 45) ≡ false
plain_start b bs n h e =
    let numeral : is_numeral (b ∷ bs) ≡ true = ap is_numeral (sym e) ∙ (numeral-decimal n h).0 in
    let digit = digit_of_numeral (b ∷ bs) 0 numeral (length_of_numeral (b ∷ bs) numeral).0 in
    ne_eqb b 45 (λ same. omega (arith, digit.0, same))

whole-start : (b : ℕ) (bs : List ℕ) → (b == 45) ≡ false → whole_of (b ∷ bs) ≡ option_map pos (natural_of (b ∷ bs))
unfolding whole_of
whole-start b bs e = cond-false (b == 45) _ _ e

whole-minus : (bs : List ℕ) → whole_of (45 ∷ bs) ≡ option_and_then negative_of (natural_of bs)
unfolding whole_of
whole-minus bs = refl

whole-pos : (n : ℕ) (ds : List ℕ) → n < 10 ^ 30 → decimal n ≡ ds → whole_of ds ≡ Some (pos n)
whole-pos n [] h e =
    let numeral : is_numeral [] ≡ true = ap is_numeral (sym e) ∙ (numeral-decimal n h).0 in cc
whole-pos n (b ∷ bs) h e =
    whole-start b bs (plain_start b bs n h e) ∙ ap (λ ds. option_map pos (natural_of ds)) (sym e) ∙ ap (option_map pos) (natural-decimal n h)

-- a short number is read from its spelling
pub whole_of-spelling : (z : ℤ) → IsShort z → whole_of (signed_decimal z) ≡ Some z
whole_of-spelling (pos n) h = whole-pos n (decimal n) h refl
whole_of-spelling (negsuc n) h =
    whole-minus (decimal (suc n)) ∙ ap (option_and_then negative_of) (natural-decimal (suc n) h)

some_pos : (o : Option ℕ) (z : ℤ) → option_map pos o ≡ Some z → (n : ℕ) × (o ≡ Some n) × (z ≡ pos n)
some_pos None z e = cc
some_pos (Some n) z e = (n, refl, cc)

some_negative : (o : Option ℕ) (z : ℤ) → option_and_then negative_of o ≡ Some z → (n : ℕ) × (o ≡ Some (suc n)) × (z ≡ negsuc n)
some_negative None z e = cc
some_negative (Some zero) z e = cc
some_negative (Some (suc n)) z e = (n, refl, cc)

-- what was read has the bytes as its spelling
pub spelling-whole_of : (bytes : List ℕ) (z : ℤ) → whole_of bytes ≡ Some z → IsShort z × (bytes ≡ signed_decimal z)
unfolding whole_of
spelling-whole_of [] z e = cc
spelling-whole_of (b ∷ bs) z e =
    elim (cases_Bool (b == 45)) [
      | inl yes' ↦
          let parts = some_negative (natural_of bs) z (sym (cond-true (b == 45) _ _ yes') ∙ e) in
          let text = decimal-natural bs (suc parts.0) parts.1 in
          let P : ℤ → Type 0 = λ z. IsShort z × ((b ∷ bs) ≡ signed_decimal z) in
          subst P (sym parts.2) (text.0, ap₂ ◌∷◌ (eqb-true b 45 yes') text.1)
      | inr no' ↦
          let parts = some_pos (natural_of (b ∷ bs)) z (sym (cond-false (b == 45) _ _ no') ∙ e) in
          let text = decimal-natural (b ∷ bs) parts.0 parts.1 in
          let P : ℤ → Type 0 = λ z. IsShort z × ((b ∷ bs) ≡ signed_decimal z) in
          subst P (sym parts.2) text
    ]

spells : (bytes : List ℕ) (o : Option ℤ) → whole_of bytes ≡ o → Spells bytes o
spells bytes None e = λ z h same. cc (whole_of-spelling z h)
spells bytes (Some z) e = spelling-whole_of bytes z e

-- `whole_of` answers the spelled number
pub whole_of-spells : (bytes : List ℕ) (o : Option ℤ) → o ≡ whole_of bytes → Spells bytes o
whole_of-spells bytes o e = spells bytes o (sym e)
