-- A line is of a form with these numbers exactly where it ends and is spelled by the keyword and them.
use Rattle.std.proofs.Common.{◌≡◌, ℕ, ℤ, ◌≤ℤ◌, Bool, true, false, ◌&&◌, cond, Option, Some, None, List, [], ◌∷◌, map, length, All, refl, sym, ap, ap₂, subst, ◌∙◌, ◌==◌, int_le, arith, eqb-true, eq-eqb}
use Rattle.std.specs.Option.{option_map, option_and_then}
use Rattle.std.specs.List.{join_with_byte}
use Rattle.std.specs.Str.{bytes_eq}
use Rattle.std.specs.Fmt.{signed_decimal}
use Rattle.std.proofs.lemmas.Int.{ints}
use Rattle.std.proofs.lemmas.Bool.{and_parts, and_from, cond-true}
use Rattle.std.proofs.lemmas.List.Elements.{All-nil, All-cons, All-head, All-tail}
use Rattle.std.proofs.lemmas.List.Splits.{join_with_byte-slice_split}
use Rattle.std.proofs.lemmas.Slice.Eq.{bytes_eq-Decides}
use Rattle.text_parts.specs.Words.{words_of}
use Rattle.text_parts.specs.Lines.{TextLine}
use Rattle.text_parts.specs.Decimal.{whole_of, IsShort}
use Rattle.text_parts.proofs.SpellingLemmas.{whole_of-spelling, spelling-whole_of}
use Rattle.plan_text.specs.LineForms.{LineForm, AreOfForm, spelled_row, in_range, word_number, numbers_of, so_many, numbers_behind, line_numbers}
use Rattle.plan_text.proofs.WordLemmas.{IsWord, words-spelled_row}

int_le_true : (a b : ℤ) → int_le a b ≡ true → a ≤ℤ b
int_le_true a b e = grind (arith, ints)

true_int_le : (a b : ℤ) → a ≤ℤ b → int_le a b ≡ true
true_int_le a b e = grind (arith, ints)

and_then_some : {A B : Type 0} (f : A → Option B) (o : Option A) (b : B) → option_and_then f o ≡ Some b → (a : A) × (o ≡ Some a) × (f a ≡ Some b)
and_then_some f None b e = cc
and_then_some f (Some a) b e = (a, refl, e)

map_some : {A B : Type 0} (f : A → B) (o : Option A) (b : B) → option_map f o ≡ Some b → (a : A) × (o ≡ Some a) × (f a ≡ b)
map_some f None b e = cc
map_some f (Some a) b e = (a, refl, cc)

guard_some : {A : Type 0} (t : Bool) (o : Option A) (b : A) → cond t o None ≡ Some b → (t ≡ true) × (o ≡ Some b)
guard_some true o b e = (refl, e)
guard_some false o b e = cc

some_is : {A : Type 0} (a b : A) → Some a ≡ Some b → a ≡ b
some_is a b e = cc

-- a word that spells a number within the form's range
record IsNumberOf (form : LineForm) (word : List ℕ) (n : ℤ) : Type 0 where
  low : form.low ≤ℤ n
  high : n ≤ℤ form.high
  short : IsShort n
  spelled : word ≡ signed_decimal n

number_is : (form : LineForm) (word : List ℕ) (n : ℤ) → word_number form word ≡ Some n → IsNumberOf form word n
unfolding word_number
number_is form word n e =
    let read = and_then_some (in_range form) (whole_of word) n e in
    let range = guard_some (int_le form.low read.0 && int_le read.0 form.high) (Some read.0) n read.2 in
    let bounds = and_parts (int_le form.low read.0) (int_le read.0 form.high) range.0 in
    let spelled = spelling-whole_of word read.0 read.1 in
    subst (IsNumberOf form word) (some_is read.0 n range.1)
    (record { low = int_le_true form.low read.0 bounds.0; high = int_le_true read.0 form.high bounds.1; short = spelled.0; spelled = spelled.1 })

is_number : (form : LineForm) (n : ℤ) → form.low ≤ℤ n → n ≤ℤ form.high → IsShort n → word_number form (signed_decimal n) ≡ Some n
unfolding word_number
is_number form n low high short =
    ap (option_and_then (in_range form)) (whole_of-spelling n short)
    ∙ cond-true (int_le form.low n && int_le n form.high) (Some n) None (and_from _ _ (true_int_le form.low n low) (true_int_le n form.high high))

-- the words that spell numbers of the form
record AreNumbersOf (form : LineForm) (words : List (List ℕ)) (numbers : List ℤ) : Type 0 where
  low : All (λ n. form.low ≤ℤ n) numbers
  high : All (λ n. n ≤ℤ form.high) numbers
  short : All IsShort numbers
  spelled : words ≡ map signed_decimal numbers

numbers_are : (form : LineForm) (words : List (List ℕ)) (numbers : List ℤ) → numbers_of form words ≡ Some numbers → AreNumbersOf form words numbers
numbers_are form [] numbers e =
    subst (AreNumbersOf form []) (some_is [] numbers e)
    (record { low = All-nil (λ n. form.low ≤ℤ n); high = All-nil (λ n. n ≤ℤ form.high); short = All-nil IsShort; spelled = refl })
numbers_are form (word ∷ words) numbers e =
    let first = and_then_some (λ n. option_map (λ ns. n ∷ ns) (numbers_of form words)) (word_number form word) numbers e in
    let others = map_some (λ ns. first.0 ∷ ns) (numbers_of form words) numbers first.2 in
    let n = number_is form word first.0 first.1 in
    let ns = numbers_are form words others.0 others.1 in
    subst (AreNumbersOf form (word ∷ words)) others.2
    (record {
      low = All-cons (λ n. form.low ≤ℤ n) first.0 others.0 n.low ns.low;
      high = All-cons (λ n. n ≤ℤ form.high) first.0 others.0 n.high ns.high;
      short = All-cons IsShort first.0 others.0 n.short ns.short;
      spelled = ap₂ ◌∷◌ n.spelled ns.spelled;
    })

are_numbers : (form : LineForm) (numbers : List ℤ) → All (λ n. form.low ≤ℤ n) numbers → All (λ n. n ≤ℤ form.high) numbers → All IsShort numbers → numbers_of form (map signed_decimal numbers) ≡ Some numbers
are_numbers form [] low high short = refl
are_numbers form (n ∷ ns) low high short =
    let first = is_number form n (All-head (λ n. form.low ≤ℤ n) n ns low) (All-head (λ n. n ≤ℤ form.high) n ns high) (All-head IsShort n ns short) in
    let others = are_numbers form ns (All-tail (λ n. form.low ≤ℤ n) n ns low) (All-tail (λ n. n ≤ℤ form.high) n ns high) (All-tail IsShort n ns short) in
    ap (option_and_then (λ n. option_map (λ ns. n ∷ ns) (numbers_of form (map signed_decimal ns)))) first
    ∙ ap (option_map (λ ns. n ∷ ns)) others

behind_is : (form : LineForm) (words : List (List ℕ)) (numbers : List ℤ) → numbers_behind form words ≡ Some numbers → (words ≡ form.keyword ∷ map signed_decimal numbers) × AreOfForm form numbers
behind_is form [] numbers e = cc
behind_is form (word ∷ words) numbers e =
    let keyword = guard_some (bytes_eq word form.keyword) (option_and_then (so_many form.count) (numbers_of form words)) numbers e in
    let read = and_then_some (so_many form.count) (numbers_of form words) numbers keyword.1 in
    let count = guard_some (length read.0 == form.count) (Some read.0) numbers read.2 in
    let are = numbers_are form words read.0 read.1 in
    let P : List ℤ → Type 0 = λ ns. ((word ∷ words) ≡ form.keyword ∷ map signed_decimal ns) × AreOfForm form ns in
    subst P (some_is read.0 numbers count.1)
    (ap₂ ◌∷◌ ((bytes_eq-Decides word form.keyword).0 keyword.0) are.spelled, record { count = eqb-true (length read.0) form.count count.0; low = are.low; high = are.high; short = are.short })

is_behind : (form : LineForm) (numbers : List ℤ) → AreOfForm form numbers → numbers_behind form (form.keyword ∷ map signed_decimal numbers) ≡ Some numbers
is_behind form numbers h =
    cond-true (bytes_eq form.keyword form.keyword) _ None ((bytes_eq-Decides form.keyword form.keyword).1 refl)
    ∙ ap (option_and_then (so_many form.count)) (are_numbers form numbers h.low h.high h.short)
    ∙ cond-true (length numbers == form.count) (Some numbers) None (eq-eqb (length numbers) form.count h.count)

-- a line of the form
pub record IsLineOf (form : LineForm) (line : TextLine) (numbers : List ℤ) : Type 0 where
  pub ended : line.ended ≡ true
  pub spelled : line.bytes ≡ spelled_row form.keyword numbers
  pub of_form : AreOfForm form numbers

pub line_is : (form : LineForm) (line : TextLine) (numbers : List ℤ) → line_numbers form line ≡ Some numbers → IsLineOf form line numbers
unfolding line_numbers
line_is form line numbers e =
    let ended = guard_some line.ended (numbers_behind form (words_of line.bytes)) numbers e in
    let row = behind_is form (words_of line.bytes) numbers ended.1 in
    record { ended = ended.0; spelled = sym (join_with_byte-slice_split 32 line.bytes) ∙ ap (join_with_byte 32) row.0; of_form = row.1 }

pub is_line : (form : LineForm) (at : ℕ) (numbers : List ℤ) → IsWord form.keyword → AreOfForm form numbers → line_numbers form (record { start = at; bytes = spelled_row form.keyword numbers; ended = true }) ≡ Some numbers
unfolding line_numbers
is_line form at numbers w h =
    ap (numbers_behind form) (words-spelled_row form.keyword numbers w h.short) ∙ is_behind form numbers h
