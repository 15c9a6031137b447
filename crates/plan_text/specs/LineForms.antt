-- Each line of a plan text has a form: a keyword, and so many numbers within a range, each behind one space. Here stand forms, the
-- line that spells numbers, the numbers that a line spells, and the forms of a plan's lines.
use Rattle.std.specs.Prelude.{ℕ, ◌≡◌, ◌^◌, ◌-◌, List, [], ◌∷◌, ◌++◌, map, length, ◌&&◌, Option, Some, None, if◌then◌else◌, ◌==◌, ℤ, pos, negsuc, ◌≤ℤ◌, int_le, All, codes}
use Rattle.std.specs.Option.{option_map, option_and_then}
use Rattle.std.specs.List.{join_with_byte}
use Rattle.std.specs.Str.{bytes_eq}
use Rattle.std.specs.Fmt.{signed_decimal}
use Rattle.algebra.specs.Scale.{greatest_scale}
use Rattle.text_parts.specs.Words.{words_of, space}
use Rattle.text_parts.specs.Lines.{TextLine, line_feed}
use Rattle.text_parts.specs.Decimal.{whole_of, IsShort}

-- the form of a line: its keyword, how many numbers follow it, and the least and the greatest of these
pub record LineForm : Type 0 where
  pub keyword : List ℕ
  pub count : ℕ
  pub low : ℤ
  pub high : ℤ

-- the greatest number of thirty digits
abbrev pub greatest_short : ℕ
greatest_short = 10 ^ 30 - 1

-- numbers of at most thirty digits
abbrev pub short_numbers : List ℕ → ℕ → LineForm
short_numbers keyword count =
    record { keyword = keyword; count = count; low = negsuc (greatest_short - 1); high = pos greatest_short }

-- the numbers of a line of this form
pub record AreOfForm (form : LineForm) (numbers : List ℤ) : Type 0 where
  pub count : length numbers ≡ form.count
  pub low : All (λ n. form.low ≤ℤ n) numbers
  pub high : All (λ n. n ≤ℤ form.high) numbers
  pub short : All IsShort numbers

-- a keyword and numbers, parted by single spaces
abbrev pub spelled_row : List ℕ → List ℤ → List ℕ
spelled_row keyword numbers = join_with_byte space (keyword ∷ map signed_decimal numbers)

-- a line that ends
abbrev pub spelled_line : List ℕ → List ℤ → List ℕ
spelled_line keyword numbers = spelled_row keyword numbers ++ line_feed ∷ []

-- a number within the form's range
abbrev pub in_range : LineForm → ℤ → Option ℤ
in_range form n = if int_le form.low n && int_le n form.high then Some n else None

-- the number that a word spells, if it is one of the form
unfoldable pub word_number : LineForm → List ℕ → Option ℤ
word_number form word = option_and_then (in_range form) (whole_of word)

-- the numbers that the words spell, if each is one of the form
abbrev pub numbers_of : LineForm → List (List ℕ) → Option (List ℤ)
numbers_of form [] = Some []
numbers_of form (word ∷ words) =
    option_and_then (λ n. option_map (λ ns. n ∷ ns) (numbers_of form words)) (word_number form word)

-- so many numbers
abbrev pub so_many : ℕ → List ℤ → Option (List ℤ)
so_many count numbers = if length numbers == count then Some numbers else None

-- the numbers behind the keyword, if the words are those of a line of this form
abbrev pub numbers_behind : LineForm → List (List ℕ) → Option (List ℤ)
numbers_behind form [] = None
numbers_behind form (word ∷ words) =
    if bytes_eq word form.keyword then option_and_then (so_many form.count) (numbers_of form words) else None

-- the numbers of a line, if it ends and is of this form
unfoldable pub line_numbers : LineForm → TextLine → Option (List ℤ)
line_numbers form line = if line.ended then numbers_behind form (words_of line.bytes) else None

-- the denominator is 1 to the greatest scale
abbrev pub den_form : LineForm
den_form = record { keyword = codes "plan"; count = 1; low = pos 1; high = pos greatest_scale }

-- the height, the grade and the curve of a segment
abbrev pub piece_form : LineForm
piece_form = short_numbers (codes "piece") 3

-- an opening stage is a byte
abbrev pub opens_form : ℕ → LineForm
opens_form blocks = record { keyword = codes "open"; count = blocks; low = pos 0; high = pos 255 }

-- the last line has its keyword alone
abbrev pub end_form : LineForm
end_form = short_numbers (codes "end") 0
