-- Fractions of whole numbers in lowest terms, their text, and the least common multiple of denominators.
use Rattle.std.specs.Prelude.{◌≡◌, ◌≢◌, ℕ, ◌^◌, ◌<◌, ℤ, pos, ◌*ℤ◌, ◌≤ℤ◌, List, ◌++◌, All, codes, unsigned_abs}
use Rattle.std.specs.Fmt.{signed_decimal}
use Rattle.numbers.specs.Divisors.{Divides, IsGreatestCommonDivisor}

-- a numerator over a denominator
pub record Fraction : Type 0 where
  pub num : ℤ
  pub den : ℤ

-- a denominator of at least 1, and no common divisor but 1 and -1
pub record IsLowest (f : Fraction) : Type 0 where
  pub positive : pos 1 ≤ℤ f.den
  pub coprime : IsGreatestCommonDivisor f.num f.den (pos 1)

-- lowest terms, both numbers of magnitude at most 2^127 - 1
pub record IsReduced (f : Fraction) : Type 0 where
  pub lowest : IsLowest f
  pub num_in_range : unsigned_abs f.num < 2 ^ 127
  pub den_in_range : unsigned_abs f.den < 2 ^ 127

-- f has the value num/den, whose denominator isn't 0
pub record HasValue (f : Fraction) (num den : ℤ) : Type 0 where
  pub defined : den ≢ pos 0
  pub same : f.num *ℤ den ≡ num *ℤ f.den

-- den isn't 0 and num/den has lowest terms in range
abbrev pub HasFraction : ℤ → ℤ → Type 0
HasFraction num den = (f : Fraction) × IsReduced f × HasValue f num den

-- the text NUM/DEN in canonical decimals
abbrev pub fraction_text : Fraction → List ℕ
fraction_text f = signed_decimal f.num ++ (codes "/" ++ signed_decimal f.den)

-- each denominator divides m, a number of at least 1 that divides every such number; it is 1 of none
pub record IsLeastCommonDenominator (parts : List Fraction) (m : ℤ) : Type 0 where
  pub positive : pos 1 ≤ℤ m
  pub common : All (λ f. Divides f.den m) parts
  pub least : (k : ℤ) → All (λ f. Divides f.den k) parts → Divides m k
