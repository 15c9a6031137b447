-- A word spells a number exactly where it is the number's spelling; words on a line are cut into themselves.
use Rattle.std.proofs.Common.{◌≡◌, ◌⊎◌, inl, inr, ℕ, ℤ, pos, negsuc, ◌≤◌, ◌<◌, ◌^◌, ◌≤ℤ◌, Bool, true, false, ◌&&◌, cond, Option, Some, None, List, [], ◌∷◌, All, unsigned_abs, refl, sym, ap, subst, ◌∙◌, int_le, arith, eq-eqb, ◌==◌}
use Rattle.std.specs.Option.{option_map, option_and_then}
use Rattle.std.specs.List.{join_with_byte, slice_split}
use Rattle.std.specs.Fmt.{signed_decimal}
use Rattle.std.proofs.lemmas.Int.{ints}
use Rattle.std.proofs.lemmas.Bool.{and_parts, and_from, cond-true}
use Rattle.std.proofs.lemmas.List.Elements.{All-nil, All-cons, All-head, All-tail, All-append}
use Rattle.std.proofs.lemmas.List.Splits.{slice_split_at, slice_split_none, join_with_byte-slice_split}
use Rattle.text_parts.specs.Decimal.{whole_of, IsShort}
use Rattle.text_parts.specs.Words.{words_of}
use Rattle.text_parts.proofs.SpellingLemmas.{whole_of-spelling, spelling-whole_of}
use Rattle.plan_text.proofs.WordLemmas.{IsWord, lacks_cons}
use Rattle.cert_text.specs.WordForms.{one_word, three_words, whole_within, natural_within}

int_le_true : (a b : ℤ) → int_le a b ≡ true → a ≤ℤ b
int_le_true a b e = grind (arith, ints)

true_int_le : (a b : ℤ) → a ≤ℤ b → int_le a b ≡ true
true_int_le a b e = grind (arith, ints)

pub and_then_some : {A B : Type 0} (f : A → Option B) (o : Option A) (b : B) → option_and_then f o ≡ Some b → (a : A) × (o ≡ Some a) × (f a ≡ Some b)
and_then_some f None b e = cc
and_then_some f (Some a) b e = (a, refl, e)

pub map_some : {A B : Type 0} (f : A → B) (o : Option A) (b : B) → option_map f o ≡ Some b → (a : A) × (o ≡ Some a) × (f a ≡ b)
map_some f None b e = cc
map_some f (Some a) b e = (a, refl, cc)

pub guard_some : {A : Type 0} (t : Bool) (o : Option A) (b : A) → cond t o None ≡ Some b → (t ≡ true) × (o ≡ Some b)
guard_some true o b e = (refl, e)
guard_some false o b e = cc

-- which way a test went
pub went : {A : Type 0} (t : Bool) (o p : Option A) (b : A) → cond t o p ≡ Some b → ((t ≡ true) × (o ≡ Some b)) ⊎ ((t ≡ false) × (p ≡ Some b))
went true o p b e = inl (refl, e)
went false o p b e = inr (refl, e)

pub some_is : {A : Type 0} (a b : A) → Some a ≡ Some b → a ≡ b
some_is a b e = cc

-- a word that spells a number from one to another
pub record IsWholeWithin (low high : ℤ) (word : List ℕ) (n : ℤ) : Type 0 where
  pub from : low ≤ℤ n
  pub to : n ≤ℤ high
  pub short : IsShort n
  pub spelled : word ≡ signed_decimal n

pub whole_is : (low high : ℤ) (word : List ℕ) (n : ℤ) → whole_within low high word ≡ Some n → IsWholeWithin low high word n
unfolding whole_within
whole_is low high word n e =
    let read = and_then_some (λ n. cond (int_le low n && int_le n high) (Some n) None) (whole_of word) n e in
    let range = guard_some (int_le low read.0 && int_le read.0 high) (Some read.0) n read.2 in
    let bounds = and_parts (int_le low read.0) (int_le read.0 high) range.0 in
    let spelled = spelling-whole_of word read.0 read.1 in
    subst (IsWholeWithin low high word) (some_is read.0 n range.1)
    (record { from = int_le_true low read.0 bounds.0; to = int_le_true read.0 high bounds.1; short = spelled.0; spelled = spelled.1 })

pub is_whole : (low high n : ℤ) → low ≤ℤ n → n ≤ℤ high → IsShort n → whole_within low high (signed_decimal n) ≡ Some n
unfolding whole_within
is_whole low high n from to short =
    ap (option_and_then (λ n. cond (int_le low n && int_le n high) (Some n) None)) (whole_of-spelling n short)
    ∙ cond-true (int_le low n && int_le n high) (Some n) None (and_from _ _ (true_int_le low n from) (true_int_le n high to))

-- a word that spells a natural number from one to another
pub record IsNaturalWithin (low high : ℕ) (word : List ℕ) (n : ℕ) : Type 0 where
  pub from : low ≤ n
  pub to : n ≤ high
  pub short : IsShort (pos n)
  pub spelled : word ≡ signed_decimal (pos n)

natural_from : (low high : ℕ) (word : List ℕ) (z : ℤ) → IsWholeWithin (pos low) (pos high) word z → IsNaturalWithin low high word (unsigned_abs z)
natural_from low high word (pos n) h =
    let from = h.from in let to = h.to in record { from = omega (arith, ints); to = omega (arith, ints); short = h.short; spelled = h.spelled }
natural_from low high word (negsuc n) h = let from = h.from in absurd (omega (arith, ints))

pub natural_is : (low high : ℕ) (word : List ℕ) (n : ℕ) → natural_within low high word ≡ Some n → IsNaturalWithin low high word n
unfolding natural_within
natural_is low high word n e =
    let read = map_some unsigned_abs (whole_within (pos low) (pos high) word) n e in
    subst (IsNaturalWithin low high word) read.2 (natural_from low high word read.0 (whole_is (pos low) (pos high) word read.0 read.1))

pub is_natural : (low high n : ℕ) → low ≤ n → n ≤ high → n < 10 ^ 30 → natural_within low high (signed_decimal (pos n)) ≡ Some n
unfolding natural_within
is_natural low high n from to short =
    ap (option_map unsigned_abs) (is_whole (pos low) (pos high) (pos n) (omega (arith, ints, from)) (omega (arith, ints, to)) short)

-- exactly so many words
pub one_is : (words : List (List ℕ)) (word : List ℕ) → one_word words ≡ Some word → words ≡ word ∷ []
one_is [] word e = cc
one_is (a ∷ []) word e = ap (λ w. w ∷ []) (some_is a word e)
one_is (a ∷ b ∷ words) word e = cc

pub three_is : (words : List (List ℕ)) (found : List ℕ × List ℕ × List ℕ) → three_words words ≡ Some found → words ≡ found.0 ∷ found.1 ∷ found.2 ∷ []
three_is [] found e = cc
three_is (a ∷ []) found e = cc
three_is (a ∷ b ∷ []) found e = cc
three_is (a ∷ b ∷ c ∷ []) found e =
    let P : List ℕ × List ℕ × List ℕ → Type 0 = λ t. (a ∷ b ∷ c ∷ []) ≡ t.0 ∷ t.1 ∷ t.2 ∷ [] in
    subst P (some_is (a, b, c) found e) refl
three_is (a ∷ b ∷ c ∷ d ∷ words) found e = cc

-- no byte of the bytes is this one
abbrev Lacks : ℕ → List ℕ → Type 0
Lacks c bytes = All (λ b. (b == c) ≡ false) bytes

-- words joined by spaces are cut into themselves
split_join : (w : List ℕ) (ws : List (List ℕ)) → IsWord w → All IsWord ws → slice_split (λ b. b == 32) (join_with_byte 32 (w ∷ ws)) ≡ w ∷ ws
split_join w [] h k = slice_split_none (λ b. b == 32) w h.no_space
split_join w (v ∷ ws) h k =
    slice_split_at (λ b. b == 32) w 32 (join_with_byte 32 (v ∷ ws)) h.no_space (eq-eqb 32 32 refl)
    ∙ ap (λ parts. w ∷ parts) (split_join v ws (All-head IsWord v ws k) (All-tail IsWord v ws k))

join_lacks : (w : List ℕ) (ws : List (List ℕ)) → IsWord w → All IsWord ws → Lacks 10 (join_with_byte 32 (w ∷ ws))
join_lacks w [] h k = h.no_line_feed
join_lacks w (v ∷ ws) h k =
    All-append (λ b. (b == 10) ≡ false) w (32 ∷ join_with_byte 32 (v ∷ ws)) h.no_line_feed
    (lacks_cons 10 32 (join_with_byte 32 (v ∷ ws)) refl (join_lacks v ws (All-head IsWord v ws k) (All-tail IsWord v ws k)))

-- at least one word, and each of them is one
pub record AreWords (words : List (List ℕ)) : Type 0 where
  pub first : List ℕ
  pub others : List (List ℕ)
  pub words_are : words ≡ first ∷ others
  pub is_word : IsWord first
  pub are_words : All IsWord others

pub words_on_line : (words : List (List ℕ)) → AreWords words → words_of (join_with_byte 32 words) ≡ words
words_on_line words h =
    let P : List (List ℕ) → Type 0 = λ ws. words_of (join_with_byte 32 ws) ≡ ws in
    subst P (sym h.words_are) (split_join h.first h.others h.is_word h.are_words)

pub line_lacks : (words : List (List ℕ)) → AreWords words → All (λ b. (b == 10) ≡ false) (join_with_byte 32 words)
line_lacks words h =
    let P : List (List ℕ) → Type 0 = λ ws. All (λ b. (b == 10) ≡ false) (join_with_byte 32 ws) in
    subst P (sym h.words_are) (join_lacks h.first h.others h.is_word h.are_words)

-- the bytes of a line are its words joined
pub line_of_words : (bytes : List ℕ) (words : List (List ℕ)) → words_of bytes ≡ words → bytes ≡ join_with_byte 32 words
line_of_words bytes words e = sym (join_with_byte-slice_split 32 bytes) ∙ ap (join_with_byte 32) e

pub words_two : (a b : List ℕ) → IsWord a → IsWord b → AreWords (a ∷ b ∷ [])
words_two a b h k =
    record { first = a; others = b ∷ []; words_are = refl; is_word = h; are_words = All-cons IsWord b [] k (All-nil IsWord) }

pub words_three : (a b c : List ℕ) → IsWord a → IsWord b → IsWord c → AreWords (a ∷ b ∷ c ∷ [])
words_three a b c h k l =
    record { first = a; others = b ∷ c ∷ []; words_are = refl; is_word = h; are_words = All-cons IsWord b (c ∷ []) k (All-cons IsWord c [] l (All-nil IsWord)) }

pub words_four : (a b c d : List ℕ) → IsWord a → IsWord b → IsWord c → IsWord d → AreWords (a ∷ b ∷ c ∷ d ∷ [])
words_four a b c d h k l m =
    record { first = a; others = b ∷ c ∷ d ∷ []; words_are = refl; is_word = h; are_words = All-cons IsWord b (c ∷ d ∷ []) k (All-cons IsWord c (d ∷ []) l (All-cons IsWord d [] m (All-nil IsWord))) }
