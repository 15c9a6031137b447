-- The form of a line: the value that its words spell, if they spell one. Here stand forms, numbers within a range, and the forms of the
-- lines of nodes.
use Rattle.std.specs.Prelude.{ℕ, Bool, false, is_some, ◌^◌, ◌+◌, ◌-◌, zero, suc, List, [], ◌∷◌, ◌&&◌, Option, Some, None, if◌then◌else◌, codes, ℤ, pos, negsuc, int_le, unsigned_abs}
use Rattle.std.specs.Option.{option_map, option_and_then}
use Rattle.std.specs.Str.{bytes_eq}
use Rattle.algebra.specs.Scale.{greatest_scale}
use Rattle.text_parts.specs.Words.{words_of}
use Rattle.text_parts.specs.Lines.{TextLine}
use Rattle.text_parts.specs.Decimal.{whole_of}
use Rattle.milp_builder.specs.declared.boxes.Split.{Split}
use Rattle.milp_builder.specs.declared.boxes.Split.TheVariants.{Removal, Height}
use Rattle.cert_tree.specs.declared.tree.Why.{Why}
use Rattle.cert_tree.specs.declared.tree.Why.TheVariants.{Nodes, Pivots, Width}
use Rattle.cert_text.specs.declared.head.Head.{Head}
use Rattle.cert_text.specs.declared.head.Head.TheVariants.{Low, Dead, Parted}

-- the value of a line, by its words
abbrev pub WordForm : Type 0 → Type 0
WordForm A = List (List ℕ) → Option A

-- the value of a line, if it ends and its words are of the form
unfoldable pub line_value : {A : Type 0} → WordForm A → TextLine → Option A
line_value form line = if line.ended then form (words_of line.bytes) else None

-- the next line is of the form
abbrev pub is_next : {A : Type 0} → WordForm A → List TextLine → Bool
is_next form [] = false
is_next form (line ∷ others) = is_some (line_value form line)

-- exactly so many words
abbrev pub one_word : WordForm (List ℕ)
one_word (a ∷ []) = Some a
one_word _ = None

abbrev pub two_words : WordForm (List ℕ × List ℕ)
two_words (a ∷ b ∷ []) = Some (a, b)
two_words _ = None

abbrev pub three_words : WordForm (List ℕ × List ℕ × List ℕ)
three_words (a ∷ b ∷ c ∷ []) = Some (a, b, c)
three_words _ = None

-- the whole number that a word spells, if it is one of these
unfoldable pub whole_within : ℤ → ℤ → List ℕ → Option ℤ
whole_within low high word =
    option_and_then (λ n. if int_le low n && int_le n high then Some n else None) (whole_of word)

-- the natural number that a word spells, if it is one of these
unfoldable pub natural_within : ℕ → ℕ → List ℕ → Option ℕ
natural_within low high word = option_map unsigned_abs (whole_within (pos low) (pos high) word)

abbrev pub scale_form : List ℕ → Option ℤ
scale_form word = whole_within (pos 1) (pos greatest_scale) word

abbrev pub other_than_zero : ℤ → Option ℤ
other_than_zero (pos zero) = None
other_than_zero (pos (suc n)) = Some (pos (suc n))
other_than_zero (negsuc n) = Some (negsuc n)

unfoldable pub value_form : List ℕ → Option ℤ
value_form word = option_and_then other_than_zero (whole_within (negsuc (greatest_scale - 1)) (pos greatest_scale) word)

unfoldable pub cause_form : List ℕ → Option (Option Why)
cause_form word =
    if bytes_eq word (codes "closed") then Some None
    else if bytes_eq word (codes "nodes") then Some (Some Nodes)
    else if bytes_eq word (codes "pivots") then Some (Some Pivots)
    else if bytes_eq word (codes "width") then Some (Some Width)
    else None

-- the greatest number of 18 digits
abbrev pub greatest_split_number : ℕ
greatest_split_number = 10 ^ 18 - 1

-- a leaf's scale, cause and number of multipliers
abbrev pub low_of : ℕ → List ℕ × List ℕ × List ℕ → Option Head
low_of rows words =
    option_and_then (λ scale. option_and_then (λ cause. option_map (λ count. Low scale cause count) (natural_within 0 rows words.2)) (cause_form words.1)) (scale_form words.0)

unfoldable pub low_form : ℕ → WordForm Head
low_form rows words = option_and_then (low_of rows) (three_words words)

unfoldable pub dead_form : ℕ → WordForm Head
dead_form rows words = option_and_then (λ word. option_map (λ count. Dead count) (natural_within 0 rows word)) (one_word words)

-- a split at a stage of a block
abbrev pub removal_of : List ℕ → List ℕ → Option Split
removal_of block stage =
    option_and_then (λ k. option_map (λ t. Removal k t) (natural_within 0 greatest_split_number stage)) (natural_within 0 greatest_split_number block)

-- a split at an offset of a section
abbrev pub height_of : List ℕ → List ℕ → Option Split
height_of section at =
    option_and_then (λ i. option_map (λ h. Height i h) (whole_within (negsuc (greatest_split_number - 1)) (pos greatest_split_number) at)) (natural_within 0 greatest_split_number section)

unfoldable pub split_of : List ℕ × List ℕ × List ℕ → Option Split
split_of words =
    if bytes_eq words.0 (codes "removal") then removal_of words.1 words.2
    else if bytes_eq words.0 (codes "height") then height_of words.1 words.2
    else None

unfoldable pub split_form : WordForm Head
split_form words = option_map (λ split. Parted split) (option_and_then split_of (three_words words))

-- the line of a node by its first word
abbrev pub head_behind : ℕ → List ℕ → WordForm Head
head_behind rows word words =
    if bytes_eq word (codes "low") then low_form rows words
    else if bytes_eq word (codes "dead") then dead_form rows words
    else if bytes_eq word (codes "split") then split_form words
    else None

unfoldable pub head_form : ℕ → WordForm Head
head_form rows [] = None
head_form rows (word ∷ words) = head_behind rows word words

-- a multiplier of a row behind another
abbrev pub mult_of : ℕ → ℕ → List ℕ × List ℕ × List ℕ → Option (ℕ × ℤ)
mult_of rows before words =
    if bytes_eq words.0 (codes "m") then option_and_then (λ row. option_map (λ value. (row, value)) (value_form words.2)) (natural_within (before + 1) rows words.1)
    else None

unfoldable pub mult_form : ℕ → ℕ → WordForm (ℕ × ℤ)
mult_form rows before words = option_and_then (mult_of rows before) (three_words words)
