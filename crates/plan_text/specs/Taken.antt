-- What was taken from the front of the lines that are left.
use Rattle.std.specs.Prelude.{ℕ, ◌≡◌, ◌+◌, List, ◌++◌, length}
use Rattle.text_parts.specs.Lines.{TextLine, Reading, text_of}

-- the lines taken make this text, and exactly the others are left
pub record Took (before after : Reading) (text : List ℕ) : Type 0 where
  pub lines : List TextLine
  pub text_is : text_of lines ≡ text
  pub left_is : before.left ≡ lines ++ after.left
  pub number_is : after.number ≡ before.number + length lines
  pub source_is : after.source ≡ before.source
