-- The words of a line are its parts between spaces; and the parts of any bytes between one byte, which lines are too.
use Rattle.std.specs.Prelude.{ℕ, List, [], ◌∷◌, Option, ◌==◌}
use Rattle.std.specs.Borrow.{Bor}
use Rattle.std.specs.List.{slice_split}
use Rattle.std.specs.Option.{option_map_or}

-- the byte between two words
abbrev pub space : ℕ
space = 32

-- the parts of the bytes between the bytes that equal this one: one more than there are such bytes
abbrev pub parts_between : ℕ → List ℕ → List (List ℕ)
parts_between separator bytes = slice_split (λ b. b == separator) bytes

-- the words of a line
abbrev pub words_of : List ℕ → List (List ℕ)
words_of line = parts_between space line

-- the bytes of what stands behind a separator, with that separator, where there is one
abbrev pub with_separator : ℕ → Option (Bor (List ℕ)) → List ℕ
with_separator separator rest = option_map_or (λ bytes. separator ∷ bytes.now) rest []

-- the parts of what stands behind a separator
abbrev pub further_parts : ℕ → Option (Bor (List ℕ)) → List (List ℕ)
further_parts separator rest = option_map_or (λ bytes. parts_between separator bytes.now) rest []
