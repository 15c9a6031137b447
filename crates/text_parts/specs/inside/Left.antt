-- What is left of a line while its words are given.
use Rattle.std.specs.Prelude.{ℕ, List, [], Option}
use Rattle.std.specs.Borrow.{Bor}
use Rattle.std.specs.Option.{option_map_or}
use Rattle.text_parts.specs.Words.{words_of}

-- the words of what is left of a line, none where nothing is left, which is less than an empty word
abbrev pub words_left : Option (Bor (List ℕ)) → List (List ℕ)
words_left rest = option_map_or (λ bytes. words_of bytes.now) rest []
