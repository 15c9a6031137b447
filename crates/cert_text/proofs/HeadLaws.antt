-- The first line of a node, and the line of a multiplier, tell their values by their words.
use Rattle.std.proofs.Common.{◌≡◌, ◌≢◌, inl, inr, ℕ, ℤ, pos, negsuc, zero, suc, ◌+◌, ◌-◌, ◌≤◌, ◌<◌, ◌^◌, ◌≤ℤ◌, true, Option, Some, None, List, [], ◌∷◌, unsigned_abs, codes, refl, sym, ap, ap₂, subst, ◌∙◌, arith}
use Rattle.std.specs.Option.{option_map, option_and_then}
use Rattle.std.specs.Str.{bytes_eq}
use Rattle.std.specs.Fmt.{signed_decimal}
use Rattle.std.proofs.lemmas.Int.{ints}
use Rattle.std.proofs.lemmas.Slice.Eq.{bytes_eq-Decides}
use Rattle.algebra.specs.Scale.{IsScale, greatest_scale}
use Rattle.text_parts.specs.Decimal.{IsShort}
use Rattle.milp_builder.specs.declared.boxes.Split.{Split}
use Rattle.milp_builder.specs.declared.boxes.Split.TheVariants.{Removal, Height}
use Rattle.cert_tree.specs.declared.tree.Why.{Why}
use Rattle.cert_tree.specs.declared.tree.Why.TheVariants.{Nodes, Pivots, Width}
use Rattle.cert_tree.specs.Trees.{IsMultiplierBehind}
use Rattle.plan_text.proofs.WordLemmas.{IsWord, is_word, number_is_word}
use Rattle.cert_text.specs.declared.head.Head.{Head}
use Rattle.cert_text.specs.declared.head.Head.TheVariants.{Low, Dead, Parted}
use Rattle.cert_text.specs.NodeText.{cause_word, low_words, dead_words, split_words, mult_words, IsSpelledSplit}
use Rattle.cert_text.specs.WordForms.{one_word, three_words, whole_within, natural_within, scale_form, other_than_zero, value_form, cause_form, greatest_split_number, low_of, low_form, dead_form, removal_of, height_of, split_of, split_form, head_form, mult_of, mult_form}
use Rattle.cert_text.proofs.WordLaws.{and_then_some, map_some, guard_some, went, some_is, whole_is, is_whole, natural_is, is_natural, one_is, three_is, AreWords, words_two, words_three, words_four}
use Rattle.cert_text.proofs.LineLaws.{Tells}

-- a word that was compared is that keyword
same_word : (word keyword : List ℕ) → bytes_eq word keyword ≡ true → word ≡ keyword
same_word word keyword e = (bytes_eq-Decides word keyword).0 e

own_word : (keyword : List ℕ) → bytes_eq keyword keyword ≡ true
own_word keyword = (bytes_eq-Decides keyword keyword).1 refl

-- what the first line of a node says
abbrev pub head_words : Head → List (List ℕ)
head_words (Low scale cause count) = low_words scale cause count
head_words (Dead count) = dead_words count
head_words (Parted split) = split_words split

abbrev pub IsHead : ℕ → Head → Type 0
IsHead rows (Low scale cause count) = IsScale scale × (count ≤ rows)
IsHead rows (Dead count) = count ≤ rows
IsHead rows (Parted split) = IsSpelledSplit split

record IsHeadOf (rows : ℕ) (words : List (List ℕ)) (head : Head) : Type 0 where
  spelled : words ≡ head_words head
  of_rows : IsHead rows head

cause_is : (word : List ℕ) (cause : Option Why) → cause_form word ≡ Some cause → word ≡ cause_word cause
unfolding cause_form
cause_is word cause e =
    elim (went (bytes_eq word (codes "closed")) (Some None) _ cause e) [
      | inl h ↦ same_word word (codes "closed") h.0 ∙ ap cause_word (some_is None cause h.1)
      | inr h ↦ elim (went (bytes_eq word (codes "nodes")) (Some (Some Nodes)) _ cause h.1) [
        | inl h ↦ same_word word (codes "nodes") h.0 ∙ ap cause_word (some_is (Some Nodes) cause h.1)
        | inr h ↦ elim (went (bytes_eq word (codes "pivots")) (Some (Some Pivots)) _ cause h.1) [
          | inl h ↦ same_word word (codes "pivots") h.0 ∙ ap cause_word (some_is (Some Pivots) cause h.1)
          | inr h ↦ let last = guard_some (bytes_eq word (codes "width")) (Some (Some Width)) cause h.1 in
              same_word word (codes "width") last.0 ∙ ap cause_word (some_is (Some Width) cause last.1)
        ]
      ]
    ]

is_cause : (cause : Option Why) → cause_form (cause_word cause) ≡ Some cause
unfolding cause_form
is_cause None = refl
is_cause (Some Nodes) = refl
is_cause (Some Pivots) = refl
is_cause (Some Width) = refl

cause_is_word : (cause : Option Why) → IsWord (cause_word cause)
cause_is_word None = is_word (codes "closed") refl refl
cause_is_word (Some Nodes) = is_word (codes "nodes") refl refl
cause_is_word (Some Pivots) = is_word (codes "pivots") refl refl
cause_is_word (Some Width) = is_word (codes "width") refl refl

-- the scale
scale_short : (scale : ℤ) → IsScale scale → IsShort scale
scale_short (pos n) h = let to = h.at_most in omega (arith, ints)
scale_short (negsuc n) h = let from = h.from_one in absurd (omega (arith, ints))

is_scale : (scale : ℤ) → IsScale scale → scale_form (signed_decimal scale) ≡ Some scale
is_scale scale h = is_whole (pos 1) (pos greatest_scale) scale h.from_one h.at_most (scale_short scale h)

low_sound : (rows : ℕ) (words : List (List ℕ)) (head : Head) → low_form rows words ≡ Some head → IsHeadOf rows (codes "low" ∷ words) head
unfolding low_form
low_sound rows words head e =
    let found = and_then_some (low_of rows) (three_words words) head e in
    let three = found.0 in
    let scale = and_then_some (λ scale. option_and_then (λ cause. option_map (λ count. Low scale cause count) (natural_within 0 rows three.2)) (cause_form three.1)) (scale_form three.0) head found.2 in
    let cause = and_then_some (λ cause. option_map (λ count. Low scale.0 cause count) (natural_within 0 rows three.2)) (cause_form three.1) head scale.2 in
    let count = map_some (λ count. Low scale.0 cause.0 count) (natural_within 0 rows three.2) head cause.2 in
    let s = whole_is (pos 1) (pos greatest_scale) three.0 scale.0 scale.1 in
    let k = natural_is 0 rows three.2 count.0 count.1 in
    let c = cause_is three.1 cause.0 cause.1 in
    subst (IsHeadOf rows (codes "low" ∷ words)) count.2
    (record {
      spelled = ap (λ ws. codes "low" ∷ ws) (three_is words three found.1) ∙ ap₂ (λ a b. codes "low" ∷ a ∷ b ∷ three.2 ∷ []) s.spelled c ∙ ap (λ w. codes "low" ∷ signed_decimal scale.0 ∷ cause_word cause.0 ∷ w ∷ []) k.spelled;
      of_rows = (record { from_one = s.from; at_most = s.to }, k.to);
    })

low_complete : (rows count : ℕ) (scale : ℤ) (cause : Option Why) → rows < 10 ^ 30 → IsScale scale → count ≤ rows → low_form rows (signed_decimal scale ∷ cause_word cause ∷ signed_decimal (pos count) ∷ []) ≡ Some (Low scale cause count)
unfolding low_form
low_complete rows count scale cause few s k =
    ap (option_and_then (λ scale. option_and_then (λ cause. option_map (λ count. Low scale cause count) (natural_within 0 rows (signed_decimal (pos count)))) (cause_form (cause_word cause)))) (is_scale scale s)
    ∙ ap (option_and_then (λ cause. option_map (λ count. Low scale cause count) (natural_within 0 rows (signed_decimal (pos count))))) (is_cause cause)
    ∙ ap (option_map (λ count. Low scale cause count)) (is_natural 0 rows count (omega arith) k (omega (arith, few, k)))

dead_sound : (rows : ℕ) (words : List (List ℕ)) (head : Head) → dead_form rows words ≡ Some head → IsHeadOf rows (codes "dead" ∷ words) head
unfolding dead_form
dead_sound rows words head e =
    let found = and_then_some (λ word. option_map (λ count. Dead count) (natural_within 0 rows word)) (one_word words) head e in
    let count = map_some (λ count. Dead count) (natural_within 0 rows found.0) head found.2 in
    let k = natural_is 0 rows found.0 count.0 count.1 in
    subst (IsHeadOf rows (codes "dead" ∷ words)) count.2
    (record {
      spelled = ap (λ ws. codes "dead" ∷ ws) (one_is words found.0 found.1) ∙ ap (λ w. codes "dead" ∷ w ∷ []) k.spelled;
      of_rows = k.to;
    })

dead_complete : (rows count : ℕ) → rows < 10 ^ 30 → count ≤ rows → dead_form rows (signed_decimal (pos count) ∷ []) ≡ Some (Dead count)
unfolding dead_form
dead_complete rows count few k =
    ap (option_map (λ count. Dead count)) (is_natural 0 rows count (omega arith) k (omega (arith, few, k)))

-- a split
record IsSplitOfWords (words : List (List ℕ)) (split : Split) : Type 0 where
  spelled : (codes "split" ∷ words) ≡ split_words split
  short : IsSpelledSplit split

removal_sound : (block stage : List ℕ) (split : Split) → removal_of block stage ≡ Some split → IsSplitOfWords (codes "removal" ∷ block ∷ stage ∷ []) split
removal_sound block stage split e =
    let k = and_then_some (λ k. option_map (λ t. Removal k t) (natural_within 0 greatest_split_number stage)) (natural_within 0 greatest_split_number block) split e in
    let t = map_some (λ t. Removal k.0 t) (natural_within 0 greatest_split_number stage) split k.2 in
    let number = natural_is 0 greatest_split_number block k.0 k.1 in
    let place = natural_is 0 greatest_split_number stage t.0 t.1 in
    let most = number.to in
    let most_place = place.to in
    subst (IsSplitOfWords (codes "removal" ∷ block ∷ stage ∷ [])) t.2
    (record {
      spelled = ap₂ (λ a b. codes "split" ∷ codes "removal" ∷ a ∷ b ∷ []) number.spelled place.spelled;
      short = (omega (arith, most), omega (arith, most_place));
    })

at_small : (at : ℤ) → negsuc (greatest_split_number - 1) ≤ℤ at → at ≤ℤ pos greatest_split_number → unsigned_abs at < 10 ^ 18
at_small (pos n) from to = omega (arith, ints)
at_small (negsuc n) from to = omega (arith, ints)

at_from : (at : ℤ) → unsigned_abs at < 10 ^ 18 → negsuc (greatest_split_number - 1) ≤ℤ at
at_from (pos n) h = omega (arith, ints)
at_from (negsuc n) h = omega (arith, ints)

at_to : (at : ℤ) → unsigned_abs at < 10 ^ 18 → at ≤ℤ pos greatest_split_number
at_to (pos n) h = omega (arith, ints)
at_to (negsuc n) h = omega (arith, ints)

height_sound : (section at : List ℕ) (split : Split) → height_of section at ≡ Some split → IsSplitOfWords (codes "height" ∷ section ∷ at ∷ []) split
height_sound section at split e =
    let low = negsuc (greatest_split_number - 1) in
    let i = and_then_some (λ i. option_map (λ h. Height i h) (whole_within low (pos greatest_split_number) at)) (natural_within 0 greatest_split_number section) split e in
    let h = map_some (λ h. Height i.0 h) (whole_within low (pos greatest_split_number) at) split i.2 in
    let number = natural_is 0 greatest_split_number section i.0 i.1 in
    let place = whole_is low (pos greatest_split_number) at h.0 h.1 in
    let most = number.to in
    subst (IsSplitOfWords (codes "height" ∷ section ∷ at ∷ [])) h.2
    (record {
      spelled = ap₂ (λ a b. codes "split" ∷ codes "height" ∷ a ∷ b ∷ []) number.spelled place.spelled;
      short = (omega (arith, most), at_small h.0 place.from place.to);
    })

split_sound_of : (three : List ℕ × List ℕ × List ℕ) (split : Split) → split_of three ≡ Some split → IsSplitOfWords (three.0 ∷ three.1 ∷ three.2 ∷ []) split
unfolding split_of
split_sound_of three split e =
    elim (went (bytes_eq three.0 (codes "removal")) (removal_of three.1 three.2) _ split e) [
      | inl h ↦ subst (λ w. IsSplitOfWords (w ∷ three.1 ∷ three.2 ∷ []) split) (sym (same_word three.0 (codes "removal") h.0)) (removal_sound three.1 three.2 split h.1)
      | inr h ↦ let last = guard_some (bytes_eq three.0 (codes "height")) (height_of three.1 three.2) split h.1 in
          subst (λ w. IsSplitOfWords (w ∷ three.1 ∷ three.2 ∷ []) split) (sym (same_word three.0 (codes "height") last.0)) (height_sound three.1 three.2 split last.1)
    ]

split_sound : (rows : ℕ) (words : List (List ℕ)) (head : Head) → split_form words ≡ Some head → IsHeadOf rows (codes "split" ∷ words) head
unfolding split_form
split_sound rows words head e =
    let made = map_some (λ split. Parted split) (option_and_then split_of (three_words words)) head e in
    let found = and_then_some split_of (three_words words) made.0 made.1 in
    let three = found.0 in
    let is = split_sound_of three made.0 found.2 in
    subst (IsHeadOf rows (codes "split" ∷ words)) made.2
    (record { spelled = ap (λ ws. codes "split" ∷ ws) (three_is words three found.1) ∙ is.spelled; of_rows = is.short })

is_number : (n : ℕ) → n < 10 ^ 18 → natural_within 0 greatest_split_number (signed_decimal (pos n)) ≡ Some n
is_number n h = is_natural 0 greatest_split_number n (omega arith) (omega (arith, h)) (omega (arith, h))

removal_complete : (k t : ℕ) → k < 10 ^ 18 → t < 10 ^ 18 → removal_of (signed_decimal (pos k)) (signed_decimal (pos t)) ≡ Some (Removal k t)
removal_complete k t h l =
    ap (option_and_then (λ k. option_map (λ t. Removal k t) (natural_within 0 greatest_split_number (signed_decimal (pos t))))) (is_number k h)
    ∙ ap (option_map (λ t. Removal k t)) (is_number t l)

at_short : (at : ℤ) → unsigned_abs at < 10 ^ 18 → IsShort at
at_short at h = omega (arith, h)

height_complete : (i : ℕ) (at : ℤ) → i < 10 ^ 18 → unsigned_abs at < 10 ^ 18 → height_of (signed_decimal (pos i)) (signed_decimal at) ≡ Some (Height i at)
height_complete i at h l =
    let low = negsuc (greatest_split_number - 1) in
    ap (option_and_then (λ i. option_map (λ h. Height i h) (whole_within low (pos greatest_split_number) (signed_decimal at)))) (is_number i h)
    ∙ ap (option_map (λ h. Height i h)) (is_whole low (pos greatest_split_number) at (at_from at l) (at_to at l) (at_short at l))

split_complete : (split : Split) → IsSpelledSplit split → head_form 0 (split_words split) ≡ Some (Parted split)
unfolding head_form split_form split_of
split_complete (Removal k t) h = ap (option_map (λ split. Parted split)) (removal_complete k t h.0 h.1)
split_complete (Height i at) h = ap (option_map (λ split. Parted split)) (height_complete i at h.0 h.1)

split_any : (rows : ℕ) (split : Split) → head_form rows (split_words split) ≡ head_form 0 (split_words split)
unfolding head_form
split_any rows (Removal k t) = refl
split_any rows (Height i at) = refl

head_sound : (rows : ℕ) (words : List (List ℕ)) (head : Head) → head_form rows words ≡ Some head → IsHeadOf rows words head
unfolding head_form
head_sound rows [] head e = cc
head_sound rows (word ∷ words) head e =
    elim (went (bytes_eq word (codes "low")) (low_form rows words) _ head e) [
      | inl h ↦ subst (λ w. IsHeadOf rows (w ∷ words) head) (sym (same_word word (codes "low") h.0)) (low_sound rows words head h.1)
      | inr h ↦ elim (went (bytes_eq word (codes "dead")) (dead_form rows words) _ head h.1) [
        | inl h ↦ subst (λ w. IsHeadOf rows (w ∷ words) head) (sym (same_word word (codes "dead") h.0)) (dead_sound rows words head h.1)
        | inr h ↦ let last = guard_some (bytes_eq word (codes "split")) (split_form words) head h.1 in
            subst (λ w. IsHeadOf rows (w ∷ words) head) (sym (same_word word (codes "split") last.0)) (split_sound rows words head last.1)
      ]
    ]

head_complete : (rows : ℕ) (head : Head) → rows < 10 ^ 30 → IsHead rows head → head_form rows (head_words head) ≡ Some head
unfolding head_form
head_complete rows (Low scale cause count) few h = low_complete rows count scale cause few h.0 h.1
head_complete rows (Dead count) few h = dead_complete rows count few h
head_complete rows (Parted split) few h = split_any rows split ∙ split_complete split h

natural_word : (n : ℕ) → n < 10 ^ 30 → IsWord (signed_decimal (pos n))
natural_word n h = number_is_word (pos n) h

split_is_words : (split : Split) → IsSpelledSplit split → AreWords (split_words split)
split_is_words (Removal k t) h =
    let one = h.0 in
    let two = h.1 in
    words_four (codes "split") (codes "removal") (signed_decimal (pos k)) (signed_decimal (pos t)) (is_word (codes "split") refl refl) (is_word (codes "removal") refl refl) (natural_word k (omega (arith, one))) (natural_word t (omega (arith, two)))
split_is_words (Height i at) h =
    let one = h.0 in
    words_four (codes "split") (codes "height") (signed_decimal (pos i)) (signed_decimal at) (is_word (codes "split") refl refl) (is_word (codes "height") refl refl) (natural_word i (omega (arith, one))) (number_is_word at (at_short at h.1))

head_is_words : (rows : ℕ) (head : Head) → rows < 10 ^ 30 → IsHead rows head → AreWords (head_words head)
head_is_words rows (Low scale cause count) few h =
    let most = h.1 in
    words_four (codes "low") (signed_decimal scale) (cause_word cause) (signed_decimal (pos count)) (is_word (codes "low") refl refl) (number_is_word scale (scale_short scale h.0)) (cause_is_word cause) (natural_word count (omega (arith, few, most)))
head_is_words rows (Dead count) few h =
    words_two (codes "dead") (signed_decimal (pos count)) (is_word (codes "dead") refl refl) (natural_word count (omega (arith, few, h)))
head_is_words rows (Parted split) few h = split_is_words split h

pub head_tells : (rows : ℕ) → rows < 10 ^ 30 → Tells (head_form rows) head_words (IsHead rows)
head_tells rows few =
    record {
      sound = λ words head e. let is = head_sound rows words head e in (is.spelled, is.of_rows);
      complete = λ head h. head_complete rows head few h;
      are_words = λ head h. head_is_words rows head few h;
    }

-- the value of a multiplier
record IsValue (word : List ℕ) (value : ℤ) : Type 0 where
  some : value ≢ pos 0
  within : unsigned_abs value ≤ greatest_scale
  spelled : word ≡ signed_decimal value

not_zero : (z value : ℤ) → other_than_zero z ≡ Some value → (z ≡ value) × (value ≢ pos 0)
not_zero (pos zero) value e = cc
not_zero (pos (suc n)) value e = let is : pos (suc n) ≡ value = some_is (pos (suc n)) value e in (is, λ none. absurd (grind (arith, ints)))
not_zero (negsuc n) value e = let is : negsuc n ≡ value = some_is (negsuc n) value e in (is, λ none. cc)

value_within : (z : ℤ) → negsuc (greatest_scale - 1) ≤ℤ z → z ≤ℤ pos greatest_scale → unsigned_abs z ≤ greatest_scale
value_within (pos n) from to = omega (arith, ints)
value_within (negsuc n) from to = omega (arith, ints)

value_is : (word : List ℕ) (value : ℤ) → value_form word ≡ Some value → IsValue word value
unfolding value_form
value_is word value e =
    let read = and_then_some other_than_zero (whole_within (negsuc (greatest_scale - 1)) (pos greatest_scale) word) value e in
    let whole = whole_is (negsuc (greatest_scale - 1)) (pos greatest_scale) word read.0 read.1 in
    let is = not_zero read.0 value read.2 in
    record {
      some = is.1;
      within = subst (λ z. unsigned_abs z ≤ greatest_scale) is.0 (value_within read.0 whole.from whole.to);
      spelled = whole.spelled ∙ ap signed_decimal is.0;
    }

value_from : (z : ℤ) → unsigned_abs z ≤ greatest_scale → negsuc (greatest_scale - 1) ≤ℤ z
value_from (pos n) h = omega (arith, ints)
value_from (negsuc n) h = omega (arith, ints)

value_to : (z : ℤ) → unsigned_abs z ≤ greatest_scale → z ≤ℤ pos greatest_scale
value_to (pos n) h = omega (arith, ints)
value_to (negsuc n) h = omega (arith, ints)

value_short : (z : ℤ) → unsigned_abs z ≤ greatest_scale → IsShort z
value_short z h = omega (arith, h)

is_not_zero : (z : ℤ) → z ≢ pos 0 → other_than_zero z ≡ Some z
is_not_zero (pos zero) n = absurd (n refl)
is_not_zero (pos (suc k)) n = refl
is_not_zero (negsuc k) n = refl

is_value : (value : ℤ) → value ≢ pos 0 → unsigned_abs value ≤ greatest_scale → value_form (signed_decimal value) ≡ Some value
unfolding value_form
is_value value some within =
    ap (option_and_then other_than_zero) (is_whole (negsuc (greatest_scale - 1)) (pos greatest_scale) value (value_from value within) (value_to value within) (value_short value within))
    ∙ is_not_zero value some

-- a multiplier
mult_sound : (rows before : ℕ) (words : List (List ℕ)) (mult : ℕ × ℤ) → mult_form rows before words ≡ Some mult → (words ≡ mult_words mult) × IsMultiplierBehind rows before mult
unfolding mult_form
mult_sound rows before words mult e =
    let found = and_then_some (mult_of rows before) (three_words words) mult e in
    let three = found.0 in
    let keyword = guard_some (bytes_eq three.0 (codes "m")) (option_and_then (λ row. option_map (λ value. (row, value)) (value_form three.2)) (natural_within (before + 1) rows three.1)) mult found.2 in
    let row = and_then_some (λ row. option_map (λ value. (row, value)) (value_form three.2)) (natural_within (before + 1) rows three.1) mult keyword.1 in
    let value = map_some (λ value. (row.0, value)) (value_form three.2) mult row.2 in
    let i = natural_is (before + 1) rows three.1 row.0 row.1 in
    let v = value_is three.2 value.0 value.1 in
    let from = i.from in
    let P : ℕ × ℤ → Type 0 = λ mult. (words ≡ mult_words mult) × IsMultiplierBehind rows before mult in
    subst P value.2 (
      three_is words three found.1 ∙ ap₂ (λ a b. a ∷ b ∷ three.2 ∷ []) (same_word three.0 (codes "m") keyword.0) i.spelled ∙ ap (λ w. codes "m" ∷ signed_decimal (pos row.0) ∷ w ∷ []) v.spelled,
      record { behind = omega (arith, from); row = i.to; some = v.some; within = v.within },
    )

mult_complete : (rows before : ℕ) (mult : ℕ × ℤ) → rows < 10 ^ 30 → IsMultiplierBehind rows before mult → mult_form rows before (mult_words mult) ≡ Some mult
unfolding mult_form
mult_complete rows before mult few h =
    let behind = h.behind in
    let most = h.row in
    ap (option_and_then (λ row. option_map (λ value. (row, value)) (value_form (signed_decimal mult.1)))) (is_natural (before + 1) rows mult.0 (omega (arith, behind)) h.row (omega (arith, few, most)))
    ∙ ap (option_map (λ value. (mult.0, value))) (is_value mult.1 h.some h.within)

pub mult_tells : (rows before : ℕ) → rows < 10 ^ 30 → Tells (mult_form rows before) mult_words (IsMultiplierBehind rows before)
mult_tells rows before few =
    record {
      sound = λ words mult e. mult_sound rows before words mult e;
      complete = λ mult h. mult_complete rows before mult few h;
      are_words = λ mult h.
          let most = h.row in
          words_three (codes "m") (signed_decimal (pos mult.0)) (signed_decimal mult.1) (is_word (codes "m") refl refl) (natural_word mult.0 (omega (arith, few, most))) (number_is_word mult.1 (value_short mult.1 h.within));
    }
