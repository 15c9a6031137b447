-- A whole number has one spelling: `0`, or an optional `-`, a digit 1 to 9 and further digits; thirty digits at most are read.
-- Here stand numerals, the number that bytes spell, and that a number and its spelling belong together.
use Rattle.std.specs.Prelude.{ℕ, ◌≡◌, ◌^◌, ◌<◌, zero, suc, ℤ, pos, negsuc, List, [], ◌∷◌, length, Bool, ◌&&◌, not, ◌==◌, nat_le, nat_lt, Option, Some, None, if◌then◌else◌, unsigned_abs, slice_index, MatchOption}
use Rattle.std.specs.Option.{option_map, option_and_then}
use Rattle.std.specs.List.{list_all}
use Rattle.std.specs.Char.{is_ascii_digit}
use Rattle.std.specs.Str.Parse.{digits_value}
use Rattle.std.specs.Fmt.{signed_decimal}

-- the byte before a number below 0
abbrev pub minus_sign : ℕ
minus_sign = 45

-- the byte of the digit 0
abbrev pub digit_zero : ℕ
digit_zero = 48

-- as many bytes as a numeral may have
abbrev pub is_digit_count : ℕ → Bool
is_digit_count count = nat_le 1 count && nat_le count 30

-- a 0 stands before other digits
abbrev pub has_leading_zero : List ℕ → Bool
has_leading_zero digits = nat_lt 1 (length digits) && slice_index digits 0 == digit_zero

-- one to thirty digits, of which the first is 0 only where it stands alone
abbrev pub is_numeral : List ℕ → Bool
is_numeral digits = list_all is_ascii_digit digits && (is_digit_count (length digits) && not (has_leading_zero digits))

-- the number that a numeral writes
unfoldable pub natural_of : List ℕ → Option ℕ
natural_of digits = if is_numeral digits then Some (digits_value 10 digits) else None

-- the number below 0 that a minus makes; there is no minus before 0
abbrev pub negative_of : ℕ → Option ℤ
negative_of zero = None
negative_of (suc n) = Some (negsuc n)

-- the whole number that the bytes spell, if they spell one of at most thirty digits
unfoldable pub whole_of : List ℕ → Option ℤ
whole_of [] = None
whole_of (b ∷ bs) =
    if b == minus_sign then option_and_then negative_of (natural_of bs) else option_map pos (natural_of (b ∷ bs))

-- a number of at most thirty digits
abbrev pub IsShort : ℤ → Type 0
IsShort z = unsigned_abs z < 10 ^ 30

-- the answer is the short number whose spelling the bytes are, and none exactly where they are the spelling of no short number
abbrev pub Spells : List ℕ → Option ℤ → Type 0
Spells bytes answer =
    MatchOption answer ((z : ℤ) → IsShort z → ¬ (bytes ≡ signed_decimal z)) (λ z. IsShort z × (bytes ≡ signed_decimal z))
