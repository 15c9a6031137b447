-- Keywords and spelled numbers are words: no byte of theirs parts words or ends a line.
use Rattle.std.proofs.Common.{◌≡◌, ℕ, ℤ, pos, negsuc, suc, ◌^◌, ◌<◌, true, false, not, List, [], ◌∷◌, ◌++◌, map, get_or, All, refl, ap, ◌∙◌, ◌==◌, arith, eq-eqb}
use Rattle.std.specs.List.{slice_split, join_with_byte, list_all}
use Rattle.std.specs.Fmt.{decimal, signed_decimal}
use Rattle.std.proofs.lemmas.Bool.{ne_eqb, and_parts, not-true}
use Rattle.std.proofs.lemmas.List.{get_or_default}
use Rattle.std.proofs.lemmas.List.Elements.{All-nil, All-cons, All-head, All-tail, All-append}
use Rattle.std.proofs.lemmas.List.Splits.{slice_split_at, slice_split_none}
use Rattle.std.proofs.lemmas.Str.Parse.{digit_at}
use Rattle.std.proofs.lemmas.Fmt.{decimal_is_IsNumeral_wide}
use Rattle.text_parts.specs.Words.{words_of}
use Rattle.text_parts.specs.Decimal.{IsShort}
use Rattle.plan_text.specs.LineForms.{spelled_row}

-- no byte of the bytes is this one
abbrev pub Lacks : ℕ → List ℕ → Type 0
Lacks c bytes = All (λ b. (b == c) ≡ false) bytes

-- neither a space nor a line feed stands in it
pub record IsWord (bytes : List ℕ) : Type 0 where
  pub no_space : Lacks 32 bytes
  pub no_line_feed : Lacks 10 bytes

lacks_nil : (c : ℕ) → Lacks c []
lacks_nil c = All-nil (λ b. (b == c) ≡ false)

pub lacks_cons : (c b : ℕ) (bs : List ℕ) → (b == c) ≡ false → Lacks c bs → Lacks c (b ∷ bs)
lacks_cons c b bs e h = All-cons (λ b. (b == c) ≡ false) b bs e h

lacks_append : (c : ℕ) (xs ys : List ℕ) → Lacks c xs → Lacks c ys → Lacks c (xs ++ ys)
lacks_append c xs ys h k = All-append (λ b. (b == c) ≡ false) xs ys h k

-- the digits of a number are words of digits
lacks_decimal : (c n : ℕ) → c < 45 → n < 10 ^ 30 → Lacks c (decimal n)
lacks_decimal c n low h = λ k d l.
    let range = digit_at (decimal n) k (decimal_is_IsNumeral_wide n (omega arith)).0.1 l in
    let same = get_or_default (decimal n) k d 0 l in
    ne_eqb (get_or (decimal n) k d) c (λ e. omega (arith, range.0, same, e))

lacks_number : (c : ℕ) (z : ℤ) → c < 45 → IsShort z → Lacks c (signed_decimal z)
lacks_number c (pos n) low h = lacks_decimal c n low h
lacks_number c (negsuc n) low h = lacks_cons c 45 (decimal (suc n)) (ne_eqb 45 c (λ e. omega (arith, e))) (lacks_decimal c (suc n) low h)

pub number_is_word : (z : ℤ) → IsShort z → IsWord (signed_decimal z)
number_is_word z h = record { no_space = lacks_number 32 z (omega arith) h; no_line_feed = lacks_number 10 z (omega arith) h }

-- words joined by spaces are cut into themselves
split_join : (c : ℕ) (w : List ℕ) (ws : List (List ℕ)) → Lacks c w → All (Lacks c) ws → slice_split (λ b. b == c) (join_with_byte c (w ∷ ws)) ≡ w ∷ ws
split_join c w [] h k = slice_split_none (λ b. b == c) w h
split_join c w (v ∷ ws) h k =
    slice_split_at (λ b. b == c) w c (join_with_byte c (v ∷ ws)) h (eq-eqb c c refl)
    ∙ ap (λ parts. w ∷ parts) (split_join c v ws (All-head (Lacks c) v ws k) (All-tail (Lacks c) v ws k))

numbers_lack : (c : ℕ) (numbers : List ℤ) → c < 45 → All IsShort numbers → All (Lacks c) (map signed_decimal numbers)
numbers_lack c [] low h = All-nil (Lacks c)
numbers_lack c (n ∷ ns) low h =
    All-cons (Lacks c) (signed_decimal n) (map signed_decimal ns) (lacks_number c n low (All-head IsShort n ns h)) (numbers_lack c ns low (All-tail IsShort n ns h))

pub words-spelled_row : (keyword : List ℕ) (numbers : List ℤ) → IsWord keyword → All IsShort numbers → words_of (spelled_row keyword numbers) ≡ keyword ∷ map signed_decimal numbers
words-spelled_row keyword numbers w h =
    split_join 32 keyword (map signed_decimal numbers) w.no_space (numbers_lack 32 numbers (omega arith) h)

join_lacks : (c d : ℕ) (w : List ℕ) (ws : List (List ℕ)) → (d == c) ≡ false → Lacks c w → All (Lacks c) ws → Lacks c (join_with_byte d (w ∷ ws))
join_lacks c d w [] e h k = h
join_lacks c d w (v ∷ ws) e h k =
    lacks_append c w (d ∷ join_with_byte d (v ∷ ws)) h
    (lacks_cons c d (join_with_byte d (v ∷ ws)) e (join_lacks c d v ws e (All-head (Lacks c) v ws k) (All-tail (Lacks c) v ws k)))

-- a row has no line feed
pub spelled_row-lacks : (keyword : List ℕ) (numbers : List ℤ) → IsWord keyword → All IsShort numbers → Lacks 10 (spelled_row keyword numbers)
spelled_row-lacks keyword numbers w h =
    join_lacks 10 32 keyword (map signed_decimal numbers) refl w.no_line_feed (numbers_lack 10 numbers (omega arith) h)

lacks_from_test : (c : ℕ) (bytes : List ℕ) → list_all (λ b. not (b == c)) bytes ≡ true → Lacks c bytes
lacks_from_test c [] e = lacks_nil c
lacks_from_test c (b ∷ bs) e =
    let parts = and_parts (not (b == c)) (list_all (λ b. not (b == c)) bs) e in
    lacks_cons c b bs (not-true (b == c) parts.0) (lacks_from_test c bs parts.1)

-- a test of a keyword
pub is_word : (bytes : List ℕ) → list_all (λ b. not (b == 32)) bytes ≡ true → list_all (λ b. not (b == 10)) bytes ≡ true → IsWord bytes
is_word bytes s l = record { no_space = lacks_from_test 32 bytes s; no_line_feed = lacks_from_test 10 bytes l }
