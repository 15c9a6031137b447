-- The definitions at worked examples.
use Rattle.std.proofs.Common.{◌≡◌, true, false, codes, [], ◌∷◌, ◌++◌, pos, negsuc, Some, None, refl}
use Rattle.text_parts.specs.Words.{words_of}
use Rattle.text_parts.specs.Lines.{lines_of}
use Rattle.text_parts.specs.Decimal.{whole_of, natural_of}

-- two lines that line feeds end, one of them empty, and a last part
lines_example : lines_of 0 (codes "cut" ++ (10 ∷ 10 ∷ codes "x")) ≡ record { start = 0; bytes = codes "cut"; ended = true } ∷ (record { start = 4; bytes = []; ended = true } ∷ (record { start = 5; bytes = codes "x"; ended = false } ∷ []))
lines_example = refl

no_lines : lines_of 0 [] ≡ []
no_lines = refl

words_example : words_of (codes "cut  7") ≡ codes "cut" ∷ [] ∷ codes "7" ∷ []
words_example = refl

zero_read : whole_of (codes "0") ≡ Some (pos 0)
unfolding whole_of natural_of
zero_read = refl

below_zero : whole_of (codes "-7") ≡ Some (negsuc 6)
unfolding whole_of natural_of
below_zero = refl

no_minus_zero : whole_of (codes "-0") ≡ None
unfolding whole_of natural_of
no_minus_zero = refl

no_leading_zero : whole_of (codes "05") ≡ None
unfolding whole_of natural_of
no_leading_zero = refl

no_plus : whole_of (codes "+5") ≡ None
unfolding whole_of natural_of
no_plus = refl
