-- The lines of a text are its parts before each line feed, and a last part without one where it is not empty.
-- Here stand a line and its span, the lines of a text and the text of lines, a reader of lines and what it gives next.
use Rattle.std.specs.Prelude.{ℕ, ◌≡◌, ◌+◌, ◌≤◌, List, [], ◌∷◌, ◌++◌, length, drop, Option, MatchOption, Bool, true, false, if◌then◌else◌, slice_range}
use Rattle.text_parts.specs.Words.{parts_between}

-- the byte that ends a line
abbrev pub line_feed : ℕ
line_feed = 10

-- a line of a source: the place of its first byte, counted from 0, its bytes, and whether a line feed ended it
pub record TextLine : Type 0 where
  pub start : ℕ
  pub bytes : List ℕ
  pub ended : Bool

-- the place just after a line's last byte, which is that of the line feed that ended it
abbrev pub end_of : TextLine → ℕ
end_of line = line.start + length line.bytes

-- a last part, which is a line where it is not empty
abbrev pub last_line : ℕ → List ℕ → List TextLine
last_line at [] = []
last_line at (b ∷ bs) = record { start = at; bytes = b ∷ bs; ended = false } ∷ []

-- the lines in the parts between line feeds, of which the first begins at this place
abbrev pub lines_of_parts : ℕ → List (List ℕ) → List TextLine
lines_of_parts at [] = []
lines_of_parts at (part ∷ []) = last_line at part
lines_of_parts at (part ∷ next ∷ parts) =
    record { start = at; bytes = part; ended = true } ∷ lines_of_parts (at + length part + 1) (next ∷ parts)

-- the lines of a text that begins at this place of its source
abbrev pub lines_of : ℕ → List ℕ → List TextLine
lines_of at text = lines_of_parts at (parts_between line_feed text)

-- a reader of lines: its source, how many lines it has given, and the lines that are left
pub record Reading : Type 0 where
  pub source : List ℕ
  pub number : ℕ
  pub left : List TextLine

-- the lines that are left are those of the source from some place on
pub record IsOfSource (lines : Reading) : Type 0 where
  pub place : ℕ
  pub left_is : lines.left ≡ lines_of place (drop place lines.source)

-- the line that was given is the first that was left and counts as one more; where none was left nothing changes
abbrev pub GivesNext : Reading → Option TextLine → Reading → Type 0
GivesNext before given after =
    MatchOption given ((before.left ≡ []) × (after ≡ before))
    (λ line. (before.left ≡ line ∷ after.left) × (after.number ≡ before.number + 1) × (after.source ≡ before.source))

-- the bytes of a line, with the line feed that ended it
abbrev pub bytes_of : TextLine → List ℕ
bytes_of line = line.bytes ++ (if line.ended then line_feed ∷ [] else [])

-- the text that these lines make
abbrev pub text_of : List TextLine → List ℕ
text_of [] = []
text_of (line ∷ lines) = bytes_of line ++ text_of lines

-- a line is its span of the source
pub record IsSpanOf (source : List ℕ) (line : TextLine) : Type 0 where
  pub within : end_of line ≤ length source
  pub same_bytes : slice_range source line.start (end_of line) ≡ line.bytes
