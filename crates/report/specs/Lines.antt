-- How a text shows the lines of a report. A cell is a text, a fraction in lowest terms, or whether a bound is reached; a line is a cell
-- by itself or a row of a table, and a row is a record of `csv`. Also what a writer of lines adds.
use Rattle.std.specs.Prelude.{◌≡◌, ℕ, ℤ, List, [], ◌∷◌, ◌++◌, codes}
use Rattle.csv.specs.Writing.{default_writer, row_text}
use Rattle.numbers.specs.Fractions.{Fraction, IsLowest, HasValue, fraction_text}

-- a cell: a text; a numerator over a denominator behind a label; whether a bound is that numerator over that denominator
pub data Cell : Type 0 where
  text : List ℕ → Cell
  ratio : List ℕ → ℤ → ℤ → Cell
  gap : ℤ → ℤ → Fraction → Cell

-- a line: a cell by itself, or a row of a table
pub data Line : Type 0 where
  alone : Cell → Line
  row : List Cell → Line

-- the label, and behind it the fraction in lowest terms
pub record ShowsRatio (label : List ℕ) (num den : ℤ) (shown : List ℕ) : Type 0 where
  pub value : Fraction
  pub lowest : IsLowest value
  pub same : HasValue value num den
  pub text_is : shown ≡ label ++ fraction_text value

-- there is no gap where the bound is the cost
pub record ShowsGap (num den : ℤ) (bound : Fraction) (shown : List ℕ) : Type 0 where
  pub closed : HasValue bound num den → shown ≡ codes "gap none"
  pub still_open : ¬ HasValue bound num den → shown ≡ codes "gap open"

abbrev pub IsWrittenAs : Cell → List ℕ → Type 0
IsWrittenAs (text t) shown = shown ≡ t
IsWrittenAs (ratio label num den) shown = ShowsRatio label num den shown
IsWrittenAs (gap num den bound) shown = ShowsGap num den bound shown

-- the cells of a row, each shown
abbrev pub AreWrittenAs : List Cell → List (List ℕ) → Type 0
AreWrittenAs [] [] = Unit {0}
AreWrittenAs [] (s ∷ shown) = ⊥
AreWrittenAs (c ∷ cells) [] = ⊥
AreWrittenAs (c ∷ cells) (s ∷ shown) = IsWrittenAs c s × AreWrittenAs cells shown

-- the bytes are this cell and the byte 10
pub record IsAlone (cell : Cell) (bytes : List ℕ) : Type 0 where
  pub shown : List ℕ
  pub is_shown : IsWrittenAs cell shown
  pub ends : bytes ≡ shown ++ codes "\n"

-- the bytes are the record of these cells, quoted only where necessary, with the byte 10
pub record IsTableRow (cells : List Cell) (bytes : List ℕ) : Type 0 where
  pub shown : List (List ℕ)
  pub are_shown : AreWrittenAs cells shown
  pub is_record : bytes ≡ row_text default_writer shown

abbrev pub IsLine : Line → List ℕ → Type 0
IsLine (alone cell) bytes = IsAlone cell bytes
IsLine (row cells) bytes = IsTableRow cells bytes

-- the bytes are these lines, one behind the other
abbrev pub AreLines : List Line → List ℕ → Type 0
AreLines [] bytes = bytes ≡ []
AreLines (line ∷ lines) bytes = (front : List ℕ) × (rest : List ℕ) × IsLine line front × AreLines lines rest × (bytes ≡ front ++ rest)

-- these lines were added behind what there was
pub record Adds (lines : List Line) (before after : List ℕ) : Type 0 where
  pub added : List ℕ
  pub are_lines : AreLines lines added
  pub behind : after ≡ before ++ added
