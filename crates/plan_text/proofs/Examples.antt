-- The definitions at worked examples.
use Rattle.std.proofs.Common.{◌≡◌, ◌++◌, ◌∷◌, [], true, false, pos, negsuc, codes, Some, None, refl}
use Rattle.std.specs.Fmt.{digits}
use Rattle.text_parts.specs.Decimal.{natural_of, whole_of}
use Rattle.plan_text.specs.LineForms.{short_numbers, spelled_line, word_number, line_numbers}
use Rattle.plan_text.specs.LineForms.{den_form, opens_form}

row_example : spelled_line (codes "cut") (pos 25000 ∷ pos 0 ∷ negsuc 0 ∷ []) ≡ codes "cut 25000 0 -1" ++ (10 ∷ [])
unfolding digits
row_example = refl

-- an empty list leaves its one word alone
empty_row : spelled_line (codes "roads") [] ≡ codes "roads" ++ (10 ∷ [])
empty_row = refl

cut_example : line_numbers (short_numbers (codes "cut") 2) (record { start = 0; bytes = codes "cut 25000 -1"; ended = true }) ≡ Some (pos 25000 ∷ negsuc 0 ∷ [])
unfolding line_numbers word_number whole_of natural_of
cut_example = refl

no_two_spaces : line_numbers (short_numbers (codes "cut") 2) (record { start = 0; bytes = codes "cut 25000  0"; ended = true }) ≡ None
unfolding line_numbers word_number whole_of natural_of
no_two_spaces = refl

no_missing_line_feed : line_numbers (short_numbers (codes "end") 0) (record { start = 0; bytes = codes "end"; ended = false }) ≡ None
unfolding line_numbers
no_missing_line_feed = refl

no_denominator_zero : line_numbers den_form (record { start = 0; bytes = codes "plan 0"; ended = true }) ≡ None
unfolding line_numbers word_number whole_of natural_of
no_denominator_zero = refl

no_opening_past_a_byte : line_numbers (opens_form 1) (record { start = 0; bytes = codes "open 256"; ended = true }) ≡ None
unfolding line_numbers word_number whole_of natural_of
no_opening_past_a_byte = refl
