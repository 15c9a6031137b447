-- The text of a tree of boxes: a line for each node and a line for each multiplier of a leaf, the first part's lines before the
-- second's. Which trees have a text: numbers within their widths, and no node under more than 432 splits.
use Rattle.std.specs.Prelude.{ℕ, ◌^◌, ◌<◌, zero, suc, List, [], ◌∷◌, ◌++◌, length, codes, Option, Some, None, ℤ, pos, unsigned_abs}
use Rattle.std.specs.List.{join_with_byte, flat_map}
use Rattle.std.specs.Fmt.{signed_decimal}
use Rattle.algebra.specs.Scale.{IsScale}
use Rattle.text_parts.specs.Words.{space}
use Rattle.text_parts.specs.Lines.{line_feed}
use Rattle.milp_builder.specs.declared.boxes.Split.{Split}
use Rattle.milp_builder.specs.declared.boxes.Split.TheVariants.{Removal, Height}
use Rattle.cert_tree.specs.declared.tree.Why.{Why}
use Rattle.cert_tree.specs.declared.tree.Why.TheVariants.{Nodes, Pivots, Width}
use Rattle.cert_tree.specs.Trees.{BoxTree, low, dead, fork, AreMultipliersBehind}

-- words, parted by single spaces, on a line that ends
abbrev pub spelled_words : List (List ℕ) → List ℕ
spelled_words words = join_with_byte space words ++ line_feed ∷ []

-- the word of a leaf's cause; a leaf that wasn't left open is closed
abbrev pub cause_word : Option Why → List ℕ
cause_word None = codes "closed"
cause_word (Some Nodes) = codes "nodes"
cause_word (Some Pivots) = codes "pivots"
cause_word (Some Width) = codes "width"

-- what stands at a node: a leaf with its scale, multipliers and cause, a leaf that proves its box empty, or a split
pub data Root : Type 0 where
  low_leaf : ℤ → List (ℕ × ℤ) → Option Why → Root
  dead_leaf : List (ℕ × ℤ) → Root
  split_at : Split → Root

-- the words of a leaf's line
abbrev pub low_words : ℤ → Option Why → ℕ → List (List ℕ)
low_words scale cause count =
    codes "low" ∷ signed_decimal scale ∷ cause_word cause ∷ signed_decimal (pos count) ∷ []

-- the words of the line of a leaf that proves its box empty
abbrev pub dead_words : ℕ → List (List ℕ)
dead_words count = codes "dead" ∷ signed_decimal (pos count) ∷ []

-- the words of a split's line
abbrev pub split_words : Split → List (List ℕ)
split_words (Removal block stage) =
    codes "split" ∷ codes "removal" ∷ signed_decimal (pos block) ∷ signed_decimal (pos stage) ∷ []
split_words (Height section at) =
    codes "split" ∷ codes "height" ∷ signed_decimal (pos section) ∷ signed_decimal at ∷ []

-- the words of a multiplier's line
abbrev pub mult_words : ℕ × ℤ → List (List ℕ)
mult_words mult = codes "m" ∷ signed_decimal (pos mult.0) ∷ signed_decimal mult.1 ∷ []

-- a line for each multiplier
abbrev pub mults_text : List (ℕ × ℤ) → List ℕ
mults_text mults = flat_map (λ mult. spelled_words (mult_words mult)) mults

-- the lines of a node alone
abbrev pub root_text : Root → List ℕ
root_text (low_leaf scale mults cause) = spelled_words (low_words scale cause (length mults)) ++ mults_text mults
root_text (dead_leaf mults) = spelled_words (dead_words (length mults)) ++ mults_text mults
root_text (split_at split) = spelled_words (split_words split)

-- the lines of a tree
abbrev pub tree_text : BoxTree → List ℕ
tree_text (low scale mults cause) = root_text (low_leaf scale mults cause)
tree_text (dead mults) = root_text (dead_leaf mults)
tree_text (fork split first second) = root_text (split_at split) ++ (tree_text first ++ tree_text second)

-- numbers of at most 18 digits
abbrev pub IsSplitNumber : ℕ → Type 0
IsSplitNumber n = n < 10 ^ 18

-- both numbers of the split have at most 18 digits
abbrev pub IsSpelledSplit : Split → Type 0
IsSpelledSplit (Removal block stage) = IsSplitNumber block × IsSplitNumber stage
IsSpelledSplit (Height section at) = IsSplitNumber section × IsSplitNumber (unsigned_abs at)

-- a node over so many rows that has lines
abbrev pub IsRoot : ℕ → Root → Type 0
IsRoot rows (low_leaf scale mults cause) = IsScale scale × AreMultipliersBehind rows 0 mults
IsRoot rows (dead_leaf mults) = AreMultipliersBehind rows 0 mults
IsRoot rows (split_at split) = IsSpelledSplit split

-- a tree over so many rows that has a text: its nodes have lines and stand on so many levels
abbrev pub IsSpelledTree : ℕ → ℕ → BoxTree → Type 0
IsSpelledTree rows zero tree = ⊥
IsSpelledTree rows (suc levels) (low scale mults cause) = IsRoot rows (low_leaf scale mults cause)
IsSpelledTree rows (suc levels) (dead mults) = IsRoot rows (dead_leaf mults)
IsSpelledTree rows (suc levels) (fork split first second) =
    IsRoot rows (split_at split) × IsSpelledTree rows levels first × IsSpelledTree rows levels second

-- a node under 432 splits stands on the last level
unfoldable pub most_levels : ℕ
most_levels = 433
