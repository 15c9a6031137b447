-- Reading nodes line by line: one node, or a tree whose nodes stand on so many levels.
use Rattle.std.specs.Prelude.{ℕ, ◌≡◌, ◌≤◌, ⊤, ◌+◌, zero, suc, List, [], ◌∷◌, None, Result, Ok, Err, ℤ}
use Rattle.text_parts.specs.Lines.{TextLine, Reading}
use Rattle.plan_text.specs.inside.LineReading.{Read, ◌>>=◌, give, taken, behind}
use Rattle.cert_tree.specs.Trees.{BoxTree, low, dead, fork}
use Rattle.cert_text.specs.declared.head.Head.{Head}
use Rattle.cert_text.specs.declared.head.Head.TheVariants.{Low, Dead, Parted}
use Rattle.cert_text.specs.NodeText.{Root, low_leaf, dead_leaf, split_at}
use Rattle.cert_text.specs.WordForms.{WordForm, line_value, head_form, mult_form}

-- the value of the next of these lines, which is to be of the form
abbrev pub next_of : {A : Type 0} → WordForm A → List TextLine → Read A
next_of form [] lines = Err (lines.number + 1)
next_of form (line ∷ others) lines = taken (line_value form line) (behind lines others)

-- the value of the next line, where it is of the form
unfoldable pub line_due : {A : Type 0} → WordForm A → Read A
line_due form lines = next_of form lines.left lines

-- no words are of this form
abbrev pub no_form : {A : Type 0} → WordForm A
no_form words = None

-- so many multipliers of rows behind one
abbrev pub mults_due : ℕ → ℕ → ℕ → Read (List (ℕ × ℤ))
mults_due rows before zero = give []
mults_due rows before (suc count) = do
  mult ← line_due (mult_form rows before)
  mults ← mults_due rows mult.0 count
  give (mult ∷ mults)

-- the rest of a node behind its first line
abbrev pub root_behind : ℕ → Head → Read Root
root_behind rows (Low scale cause count) = do
  mults ← mults_due rows 0 count
  give (low_leaf scale mults cause)
root_behind rows (Dead count) = do
  mults ← mults_due rows 0 count
  give (dead_leaf mults)
root_behind rows (Parted split) = give (split_at split)

-- a node alone
unfoldable pub root_due : ℕ → Read Root
root_due rows = do
  head ← line_due (head_form rows)
  root_behind rows head

-- a node on one of so many levels; where there is none, no line is one
abbrev pub root_on : ℕ → ℕ → Read Root
root_on rows zero = line_due no_form
root_on rows (suc levels) = root_due rows

-- the trees behind a node that is read
abbrev pub tree_behind : Read BoxTree → Root → Read BoxTree
tree_behind part (low_leaf scale mults cause) = give (low scale mults cause)
tree_behind part (dead_leaf mults) = give (dead mults)
tree_behind part (split_at split) = do
  first ← part
  second ← part
  give (fork split first second)

-- a tree whose nodes stand on so many levels
abbrev pub tree_due : ℕ → ℕ → Read BoxTree
tree_due rows zero = line_due no_form
tree_due rows (suc levels) = do
  root ← root_due rows
  tree_behind (tree_due rows levels) root

-- the number of multipliers that a node's first line states is at most that of the rows
abbrev pub HasCountWithin : ℕ → Head → Type 0
HasCountWithin rows (Low scale cause count) = count ≤ rows
HasCountWithin rows (Dead count) = count ≤ rows
HasCountWithin rows (Parted split) = Unit {0}

-- a reader's answer is what was due, with the lines that are left, or the number of the line that is refused
abbrev pub GivesOrLine : {A : Type 0} → Result (A × Reading) ℕ → Result A ℕ → Reading → Type 0
GivesOrLine due (Ok value) lines = due ≡ Ok (value, lines)
GivesOrLine due (Err line) lines = due ≡ Err line

-- the multipliers that were due are read into the buffer, or a line is refused
abbrev pub FillsOrLine : Result (List (ℕ × ℤ) × Reading) ℕ → Result ⊤ ℕ → List (ℕ × ℤ) → Reading → Type 0
FillsOrLine due (Ok nothing) mults lines = due ≡ Ok (mults, lines)
FillsOrLine due (Err line) mults lines = due ≡ Err line
