-- What stands before and behind the tree of a certificate, and the whole text, are spelled by their lines.
use Rattle.std.proofs.Common.{◌≡◌, inl, inr, ℕ, ℤ, pos, negsuc, suc, ◌-◌, ◌≤◌, ◌<◌, ◌^◌, ◌≤ℤ◌, true, false, Option, Some, None, List, [], ◌∷◌, ◌++◌, All, unsigned_abs, codes, refl, sym, ap, ap₂, subst, ◌∙◌, ◌==◌, arith, get_or}
use Rattle.std.specs.Prelude.{⊤}
use Rattle.std.specs.Option.{option_map, option_and_then}
use Rattle.std.specs.Str.{bytes_eq}
use Rattle.std.specs.List.{join_with_byte}
use Rattle.std.specs.Fmt.{decimal, signed_decimal}
use Rattle.std.proofs.lemmas.Int.{ints}
use Rattle.std.proofs.lemmas.Bool.{cond-true, ne_eqb}
use Rattle.std.proofs.lemmas.List.{get_or_default}
use Rattle.std.proofs.lemmas.List.Elements.{All-append}
use Rattle.std.proofs.lemmas.List.Splits.{slice_split_at, slice_split_none, join_with_byte-slice_split}
use Rattle.std.proofs.lemmas.Slice.Eq.{bytes_eq-Decides}
use Rattle.std.proofs.lemmas.Str.Parse.{digit_at}
use Rattle.std.proofs.lemmas.Fmt.{decimal_is_IsNumeral_wide}
use Rattle.algebra.specs.Scale.{IsScale, greatest_scale}
use Rattle.numbers.specs.Fractions.{Fraction, fraction_text}
use Rattle.text_parts.specs.Decimal.{IsShort}
use Rattle.text_parts.specs.Words.{parts_between}
use Rattle.plan_text.proofs.WordLemmas.{IsWord, lacks_cons, is_word, number_is_word}
use Rattle.cert_text.specs.CertText.{bound_words, IsStated, IsStatedOrNone}
use Rattle.cert_text.specs.WordForms.{one_word, two_words, whole_within}
use Rattle.cert_text.specs.Fractions.{lowest, greatest_numerator, fraction_of, fraction_form}
use Rattle.cert_text.specs.StatedForms.{same_word, keyword_form, fraction_behind, cost_form, bound_of, bound_form}
use Rattle.cert_text.proofs.WordLaws.{and_then_some, map_some, guard_some, went, some_is, whole_is, is_whole, one_is, AreWords, words_two}
use Rattle.cert_text.proofs.LineLaws.{Tells}
use Rattle.cert_text.proofs.LowestLaws.{lowest_is, is_lowest}

-- no digit and no minus is a slash
no_slash_decimal : (n : ℕ) → n < 10 ^ 30 → All (λ b. (b == 47) ≡ false) (decimal n)
no_slash_decimal n h = λ k d l.
    let range = digit_at (decimal n) k (decimal_is_IsNumeral_wide n (omega arith)).0.1 l in
    let same = get_or_default (decimal n) k d 0 l in
    ne_eqb (get_or (decimal n) k d) 47 (λ e. omega (arith, range.0, same, e))

no_slash : (z : ℤ) → IsShort z → All (λ b. (b == 47) ≡ false) (signed_decimal z)
no_slash (pos n) h = no_slash_decimal n h
no_slash (negsuc n) h = lacks_cons 47 45 (decimal (suc n)) refl (no_slash_decimal (suc n) h)

num_from : (z : ℤ) → unsigned_abs z ≤ greatest_numerator → negsuc (greatest_numerator - 1) ≤ℤ z
num_from (pos n) h = omega (arith, ints)
num_from (negsuc n) h = omega (arith, ints)

num_to : (z : ℤ) → unsigned_abs z ≤ greatest_numerator → z ≤ℤ pos greatest_numerator
num_to (pos n) h = omega (arith, ints)
num_to (negsuc n) h = omega (arith, ints)

num_within : (z : ℤ) → negsuc (greatest_numerator - 1) ≤ℤ z → z ≤ℤ pos greatest_numerator → unsigned_abs z ≤ greatest_numerator
num_within (pos n) from to = omega (arith, ints)
num_within (negsuc n) from to = omega (arith, ints)

num_short : (z : ℤ) → unsigned_abs z ≤ greatest_numerator → IsShort z
num_short z h = omega (arith, h)

den_short : (z : ℤ) → IsScale z → IsShort z
den_short (pos n) h = let to = h.at_most in omega (arith, ints)
den_short (negsuc n) h = let from = h.from_one in absurd (omega (arith, ints))

two_is : (words : List (List ℕ)) (found : List ℕ × List ℕ) → two_words words ≡ Some found → words ≡ found.0 ∷ found.1 ∷ []
two_is [] found e = cc
two_is (a ∷ []) found e = cc
two_is (a ∷ b ∷ []) found e =
    let P : List ℕ × List ℕ → Type 0 = λ t. (a ∷ b ∷ []) ≡ t.0 ∷ t.1 ∷ [] in
    subst P (some_is (a, b) found e) refl
two_is (a ∷ b ∷ c ∷ words) found e = cc

-- a word that spells a fraction
record IsFractionOf (word : List ℕ) (f : Fraction) : Type 0 where
  spelled : word ≡ fraction_text f
  stated : IsStated f

fraction_is : (word : List ℕ) (f : Fraction) → fraction_form word ≡ Some f → IsFractionOf word f
unfolding fraction_form
fraction_is word f e =
    let parts = and_then_some (λ (found : List ℕ × List ℕ). fraction_of found.0 found.1) (two_words (parts_between 47 word)) f e in
    let two = parts.0 in
    let low = negsuc (greatest_numerator - 1) in
    let n = and_then_some (λ n. option_and_then (λ d. lowest n d) (whole_within (pos 1) (pos greatest_scale) two.1)) (whole_within low (pos greatest_numerator) two.0) f parts.2 in
    let d = and_then_some (λ d. lowest n.0 d) (whole_within (pos 1) (pos greatest_scale) two.1) f n.2 in
    let num = whole_is low (pos greatest_numerator) two.0 n.0 n.1 in
    let den = whole_is (pos 1) (pos greatest_scale) two.1 d.0 d.1 in
    let is = lowest_is n.0 d.0 f den.from d.2 in
    let num_is : n.0 ≡ f.num = ap (λ (f : Fraction). f.num) is.0 in
    let den_is : d.0 ≡ f.den = ap (λ (f : Fraction). f.den) is.0 in
    record {
      spelled = sym (join_with_byte-slice_split 47 word) ∙ ap (join_with_byte 47) (two_is (parts_between 47 word) two parts.1) ∙ ap₂ (λ a b. a ++ (47 ∷ b)) (num.spelled ∙ ap signed_decimal num_is) (den.spelled ∙ ap signed_decimal den_is);
      stated = record {
        lowest = is.1;
        den_within = subst IsScale den_is (record { from_one = den.from; at_most = den.to });
        num_within = subst (λ z. unsigned_abs z ≤ greatest_numerator) num_is (num_within n.0 num.from num.to);
      };
    }

fraction_parts : (f : Fraction) → IsStated f → parts_between 47 (fraction_text f) ≡ signed_decimal f.num ∷ signed_decimal f.den ∷ []
fraction_parts f h =
    slice_split_at (λ b. b == 47) (signed_decimal f.num) 47 (signed_decimal f.den) (no_slash f.num (num_short f.num h.num_within)) refl
    ∙ ap (λ ps. signed_decimal f.num ∷ ps) (slice_split_none (λ b. b == 47) (signed_decimal f.den) (no_slash f.den (den_short f.den h.den_within)))

is_fraction : (f : Fraction) → IsStated f → fraction_form (fraction_text f) ≡ Some f
unfolding fraction_form
is_fraction f h =
    let num = is_whole (negsuc (greatest_numerator - 1)) (pos greatest_numerator) f.num (num_from f.num h.num_within) (num_to f.num h.num_within) (num_short f.num h.num_within) in
    let den = is_whole (pos 1) (pos greatest_scale) f.den h.den_within.from_one h.den_within.at_most (den_short f.den h.den_within) in
    ap (λ ps. option_and_then (λ (found : List ℕ × List ℕ). fraction_of found.0 found.1) (two_words ps)) (fraction_parts f h)
    ∙ ap (option_and_then (λ n. option_and_then (λ d. lowest n d) (whole_within (pos 1) (pos greatest_scale) (signed_decimal f.den)))) num
    ∙ ap (option_and_then (λ d. lowest f.num d)) den
    ∙ is_lowest f h.lowest

fraction_is_word : (f : Fraction) → IsStated f → IsWord (fraction_text f)
fraction_is_word f h =
    let num = number_is_word f.num (num_short f.num h.num_within) in
    let den = number_is_word f.den (den_short f.den h.den_within) in
    record {
      no_space = All-append (λ b. (b == 32) ≡ false) (signed_decimal f.num) (47 ∷ signed_decimal f.den) num.no_space (lacks_cons 32 47 (signed_decimal f.den) refl den.no_space);
      no_line_feed = All-append (λ b. (b == 10) ≡ false) (signed_decimal f.num) (47 ∷ signed_decimal f.den) num.no_line_feed (lacks_cons 10 47 (signed_decimal f.den) refl den.no_line_feed);
    }

-- a keyword alone
same_is : (keyword word : List ℕ) (nothing : ⊤) → same_word keyword word ≡ Some nothing → word ≡ keyword
same_is keyword word nothing e = (bytes_eq-Decides word keyword).0 (guard_some (bytes_eq word keyword) (Some tt) nothing e).0

own_word : (keyword : List ℕ) → bytes_eq keyword keyword ≡ true
own_word keyword = (bytes_eq-Decides keyword keyword).1 refl

one_word_line : (word : List ℕ) → IsWord word → AreWords (word ∷ [])
one_word_line word h = record { first = word; others = []; words_are = refl; is_word = h; are_words = none }
  where
    none : All IsWord []
    none = λ k d l. absurd (omega (arith, l))

-- always
abbrev pub Always : ⊤ → Type 0
Always nothing = Unit {0}

pub keyword_tells : (keyword : List ℕ) → IsWord keyword → Tells (keyword_form keyword) (λ nothing. keyword ∷ []) Always
unfolding keyword_form
keyword_tells keyword h =
    record {
      sound = λ words nothing e.
          let found = and_then_some (same_word keyword) (one_word words) nothing e in
          (one_is words found.0 found.1 ∙ ap (λ w. w ∷ []) (same_is keyword found.0 nothing found.2), tt);
      complete = λ nothing k. cond-true (bytes_eq keyword keyword) (Some tt) None (own_word keyword);
      are_words = λ nothing k. one_word_line keyword h;
    }

behind_is : (keyword : List ℕ) (words : List ℕ × List ℕ) (f : Fraction) → fraction_behind keyword words ≡ Some f → (words.0 ≡ keyword) × IsFractionOf words.1 f
behind_is keyword words f e =
    let went' = guard_some (bytes_eq words.0 keyword) (fraction_form words.1) f e in
    ((bytes_eq-Decides words.0 keyword).0 went'.0, fraction_is words.1 f went'.1)

is_behind : (keyword : List ℕ) (f : Fraction) → IsStated f → fraction_behind keyword (keyword, fraction_text f) ≡ Some f
is_behind keyword f h = cond-true (bytes_eq keyword keyword) (fraction_form (fraction_text f)) None (own_word keyword) ∙ is_fraction f h

pub cost_tells : Tells cost_form (λ f. codes "cost" ∷ fraction_text f ∷ []) IsStated
unfolding cost_form
cost_tells =
    record {
      sound = λ words f e.
          let found = and_then_some (fraction_behind (codes "cost")) (two_words words) f e in
          let is = behind_is (codes "cost") found.0 f found.2 in
          (two_is words found.0 found.1 ∙ ap₂ (λ a b. a ∷ b ∷ []) is.0 is.1.spelled, is.1.stated);
      complete = λ f h. is_behind (codes "cost") f h;
      are_words = λ f h. words_two (codes "cost") (fraction_text f) (is_word (codes "cost") refl refl) (fraction_is_word f h);
    }

bound_sound : (words : List ℕ × List ℕ) (bound : Option Fraction) → bound_of words ≡ Some bound → ((words.0 ∷ words.1 ∷ []) ≡ bound_words bound) × IsStatedOrNone bound
bound_sound words bound e =
    elim (went (bytes_eq words.0 (codes "no")) (option_map (λ nothing. None) (same_word (codes "bound") words.1)) _ bound e) [
      | inl h ↦
          let made = map_some (λ nothing. None) (same_word (codes "bound") words.1) bound h.1 in
          let P : Option Fraction → Type 0 = λ bound. ((words.0 ∷ words.1 ∷ []) ≡ bound_words bound) × IsStatedOrNone bound in
          subst P made.2 (ap₂ (λ a b. a ∷ b ∷ []) ((bytes_eq-Decides words.0 (codes "no")).0 h.0) (same_is (codes "bound") words.1 made.0 made.1), tt)
      | inr h ↦
          let made = map_some (λ f. Some f) (fraction_behind (codes "bound") words) bound h.1 in
          let is = behind_is (codes "bound") words made.0 made.1 in
          let P : Option Fraction → Type 0 = λ bound. ((words.0 ∷ words.1 ∷ []) ≡ bound_words bound) × IsStatedOrNone bound in
          subst P made.2 (ap₂ (λ a b. a ∷ b ∷ []) is.0 is.1.spelled, is.1.stated)
    ]

bound_complete : (bound : Option Fraction) → IsStatedOrNone bound → bound_form (bound_words bound) ≡ Some bound
unfolding bound_form
bound_complete None h = refl
bound_complete (Some f) h = ap (option_map (λ f. Some f)) (is_behind (codes "bound") f h)

bound_is_words : (bound : Option Fraction) → IsStatedOrNone bound → AreWords (bound_words bound)
bound_is_words None h = words_two (codes "no") (codes "bound") (is_word (codes "no") refl refl) (is_word (codes "bound") refl refl)
bound_is_words (Some f) h = words_two (codes "bound") (fraction_text f) (is_word (codes "bound") refl refl) (fraction_is_word f h)

pub bound_tells : Tells bound_form bound_words IsStatedOrNone
unfolding bound_form
bound_tells =
    record {
      sound = λ words bound e.
          let found = and_then_some bound_of (two_words words) bound e in
          let is = bound_sound found.0 bound found.2 in
          (two_is words found.0 found.1 ∙ is.0, is.1);
      complete = λ bound h. bound_complete bound h;
      are_words = λ bound h. bound_is_words bound h;
    }
