-- The words that the program takes, by one table of its forms, and the command that they stand for.
--     Verb, Form, Row, forms      what is to be done with a road; which names follow a word; the table
--     Command      a command over two files, or a trial of a number
--     command_of words      the command, where the words are one of the forms
--     name_written command      the name of the file that a command writes, if it writes one
use Rattle.std.specs.Prelude.{ℕ, Bool, true, false, ◌||◌, nat_le, if◌then◌else◌, Option, Some, None, ℤ, pos, negsuc, List, [], ◌∷◌, codes}
use Rattle.std.specs.Str.{bytes_eq}
use Rattle.text_parts.specs.Decimal.{whole_of}

-- what is to be done with a road; what is carried is written to a file of this name
pub data Verb : Type 0 where
  Judge : Verb
  Check : Verb
  Replay : Verb
  Solve : Verb
  Mass : Verb
  Carry : List ℕ → Verb

-- which names follow a word: those of a road's file and of a further one; the number of a trial road; or those of a road's file, of a
-- certificate's and of one to write
pub data Form : Type 0 where
  two_files : Verb → Form
  a_number : Form
  to_new : Form

-- a word, the names behind it as the usage line shows them, and its form
pub record Row : Type 0 where
  pub word : List ℕ
  pub names : List ℕ
  pub form : Form

abbrev pub forms : List Row
forms =
    record { word = codes "judge"; names = codes "ROAD PLAN"; form = two_files Judge }
    ∷ record { word = codes "check"; names = codes "ROAD CERT"; form = two_files Check }
    ∷ record { word = codes "replay"; names = codes "ROAD CERT"; form = two_files Replay }
    ∷ record { word = codes "solve"; names = codes "ROAD CERT"; form = two_files Solve }
    ∷ record { word = codes "trial"; names = codes "NUMBER"; form = a_number }
    ∷ record { word = codes "carry"; names = codes "ROAD CERT NEW"; form = to_new }
    ∷ record { word = codes "mass"; names = codes "ROAD CERT"; form = two_files Mass }
    ∷ []

-- the form of the first row with this word
abbrev pub form_in : List Row → List ℕ → Option Form
form_in [] word = None
form_in (row ∷ rows) word = if bytes_eq word row.word then Some row.form else form_in rows word

-- what is to be done with a road, the name of its file, and that of the further one: the plan, or the certificate
pub record RoadCommand : Type 0 where
  pub verb : Verb
  pub road : List ℕ
  pub other : List ℕ

-- a command over a road's file and a further one, or over the trial road of a number
pub data Command : Type 0 where
  on_road : RoadCommand → Command
  trial : ℕ → Command

abbrev pub is_empty : List ℕ → Bool
is_empty [] = true
is_empty (b ∷ bytes) = false

-- the names of files that a command doesn't take: a search doesn't write over the file of its road, and what is carried has a name that is
-- neither empty nor one of the other two, which differ
abbrev pub clashes : Verb → List ℕ → List ℕ → Bool
clashes Solve road cert = bytes_eq road cert
clashes (Carry new) road cert = is_empty new || (bytes_eq road cert || (bytes_eq road new || bytes_eq cert new))
clashes _ road other = false

-- the command over two files, neither of whose names is empty
abbrev pub over_files : Verb → List ℕ → List ℕ → Option Command
over_files verb road other =
    if is_empty road || (is_empty other || clashes verb road other)
    then None
    else Some (on_road (record { verb = verb; road = road; other = other }))

-- the trial of a number from 0 to 999999999
abbrev pub trial_of : Option ℤ → Option Command
trial_of (Some (pos n)) = if nat_le n 999999999 then Some (trial n) else None
trial_of (Some (negsuc n)) = None
trial_of None = None

-- the command for the names behind a word
unfoldable pub command_by : Option Form → List (List ℕ) → Option Command
command_by (Some (two_files verb)) (road ∷ other ∷ []) = over_files verb road other
command_by (Some to_new) (road ∷ cert ∷ new ∷ []) = over_files (Carry new) road cert
command_by (Some a_number) (number ∷ []) = trial_of (whole_of number)
command_by form names = None

-- the command that the words stand for, where they are one of the table's forms
unfoldable pub command_of : List (List ℕ) → Option Command
command_of [] = None
command_of (word ∷ names) = command_by (form_in forms word) names

-- the name of the file that is written: what is carried goes to a name of its own, and a search writes its further file
abbrev pub name_by : Verb → List ℕ → List ℕ
name_by (Carry new) other = new
name_by _ other = other

-- the name of the file that a command writes, where it writes one
abbrev pub name_written : RoadCommand → List ℕ
name_written command = name_by command.verb command.other
