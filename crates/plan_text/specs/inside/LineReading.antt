-- Reading line by line: it takes lines from the front of those that are left, and ends at the first one that isn't of the form
-- due. Readers of longer texts go on by it.
use Rattle.std.specs.Prelude.{ℕ, ◌≡◌, ◌+◌, zero, suc, List, [], ◌∷◌, Option, Some, None, Result, Ok, Err, ℤ}
use Rattle.text_parts.specs.Lines.{TextLine, Reading}
use Rattle.plan_text.specs.declared.error.TextErr.{TextErr}
use Rattle.plan_text.specs.declared.error.TextErr.TheVariants.{Bad, NoMemory}
use Rattle.plan_text.specs.LineForms.{LineForm, line_numbers}

-- what a reader gives: a value and the reader of the lines behind it, or the number of the line that isn't of the form due
abbrev pub Read : Type 0 → Type 0
Read A = Reading → Result (A × Reading) ℕ

-- what follows a value that was read; a line that was refused ends the reading
abbrev pub then_read : {A B : Type 0} → Result (A × Reading) ℕ → (A → Read B) → Result (B × Reading) ℕ
then_read (Err line) next = Err line
then_read (Ok read) next = next read.0 read.1

-- one reader after another, the second by what the first read
infixl 10 ◌>>=◌
abbrev pub ◌>>=◌ : {A B : Type 0} → Read A → (A → Read B) → Read B
(read >>= next) lines = then_read (read lines) next

-- no line is taken
abbrev pub give : {A : Type 0} → A → Read A
give value lines = Ok (value, lines)

-- the line was taken, and is of the form due or not
abbrev pub taken : {A : Type 0} → Option A → Read A
taken None lines = Err lines.number
taken (Some value) lines = Ok (value, lines)

-- the reader of the lines behind the first
abbrev pub behind : Reading → List TextLine → Reading
behind lines others = record { source = lines.source; number = lines.number + 1; left = others }

-- the numbers of the next line, which is to be of this form
abbrev pub next_numbers : LineForm → List TextLine → Read (List ℤ)
next_numbers form [] lines = Err (lines.number + 1)
next_numbers form (line ∷ others) lines = taken (line_numbers form line) (behind lines others)

-- the numbers of the next line, where it is of this form
unfoldable pub numbers_due : LineForm → Read (List ℤ)
numbers_due form lines = next_numbers form lines.left lines

-- so many values, one after another
abbrev pub repeat_due : {A : Type 0} → ℕ → Read A → Read (List A)
repeat_due zero read = give []
repeat_due (suc n) read = do
  first ← read
  others ← repeat_due n read
  give (first ∷ others)

-- an answer is what was due, with the lines that are left; after want of memory nothing is said
abbrev pub Gives : {A : Type 0} → Result (A × Reading) ℕ → Result A TextErr → Reading → Type 0
Gives due (Ok value) lines = due ≡ Ok (value, lines)
Gives due (Err (Bad line)) lines = due ≡ Err line
Gives due (Err NoMemory) lines = Unit {0}

-- an answer with this value
abbrev pub with_value : {A B : Type 0} → A → Result B TextErr → Result A TextErr
with_value value (Ok done) = Ok value
with_value value (Err error) = Err error

-- an answer says that what was due is this value, which stands elsewhere
abbrev pub Leaves : {A B : Type 0} → Result (A × Reading) ℕ → Result B TextErr → A → Reading → Type 0
Leaves due result value lines = Gives due (with_value value result) lines
