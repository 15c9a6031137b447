-- The fraction that a word spells, in lowest terms.
use Rattle.std.specs.Prelude.{ℕ, ◌^◌, ◌-◌, ◌%◌, zero, suc, List, Bool, true, ◌&&◌, ◌||◌, not, ◌==◌, Option, Some, None, if◌then◌else◌, ℤ, pos, negsuc, unsigned_abs}
use Rattle.std.specs.Option.{option_and_then}
use Rattle.algebra.specs.Scale.{greatest_scale}
use Rattle.numbers.specs.Fractions.{Fraction}
use Rattle.text_parts.specs.Words.{parts_between}
use Rattle.cert_text.specs.WordForms.{two_words, whole_within}

-- the byte between numerator and denominator
abbrev pub slash : ℕ
slash = 47

-- no number from 2 to this one divides both; terms are lowest where none to the denominator does
abbrev pub has_no_divisor : ℕ → ℕ → ℕ → Bool
has_no_divisor a b zero = true
has_no_divisor a b (suc k) = (k == 0 || not ((a % suc k) == 0 && (b % suc k) == 0)) && has_no_divisor a b k

-- the fraction, if these are its lowest terms
unfoldable pub lowest : ℤ → ℤ → Option Fraction
lowest num den = if has_no_divisor (unsigned_abs num) (unsigned_abs den) (unsigned_abs den) then Some (record { num = num; den = den }) else None

-- the greatest magnitude of a numerator
abbrev pub greatest_numerator : ℕ
greatest_numerator = 2 ^ 86

abbrev pub fraction_of : List ℕ → List ℕ → Option Fraction
fraction_of num den =
    option_and_then (λ n. option_and_then (λ d. lowest n d) (whole_within (pos 1) (pos greatest_scale) den)) (whole_within (negsuc (greatest_numerator - 1)) (pos greatest_numerator) num)

unfoldable pub fraction_form : List ℕ → Option Fraction
fraction_form word = option_and_then (λ found. fraction_of found.0 found.1) (two_words (parts_between slash word))
