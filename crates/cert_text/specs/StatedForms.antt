-- The forms of the lines before and behind the tree: a keyword alone, a plan's cost, and a bound or that there is none.
use Rattle.std.specs.Prelude.{ℕ, ⊤, List, Option, Some, None, if◌then◌else◌, codes}
use Rattle.std.specs.Option.{option_map, option_and_then}
use Rattle.std.specs.Str.{bytes_eq}
use Rattle.numbers.specs.Fractions.{Fraction}
use Rattle.cert_text.specs.WordForms.{WordForm, one_word, two_words}
use Rattle.cert_text.specs.Fractions.{fraction_form}

-- a keyword alone
abbrev pub same_word : List ℕ → List ℕ → Option ⊤
same_word keyword word = if bytes_eq word keyword then Some tt else None

unfoldable pub keyword_form : List ℕ → WordForm ⊤
keyword_form keyword words = option_and_then (same_word keyword) (one_word words)

-- a keyword and a fraction
abbrev pub fraction_behind : List ℕ → List ℕ × List ℕ → Option Fraction
fraction_behind keyword words = if bytes_eq words.0 keyword then fraction_form words.1 else None

unfoldable pub cost_form : WordForm Fraction
cost_form words = option_and_then (fraction_behind (codes "cost")) (two_words words)

-- a bound, or that there is none
abbrev pub bound_of : List ℕ × List ℕ → Option (Option Fraction)
bound_of words =
    if bytes_eq words.0 (codes "no") then option_map (λ nothing. None) (same_word (codes "bound") words.1)
    else option_map (λ f. Some f) (fraction_behind (codes "bound") words)

unfoldable pub bound_form : WordForm (Option Fraction)
bound_form words = option_and_then bound_of (two_words words)
