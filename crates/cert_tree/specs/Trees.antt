-- Trees of boxes: leaves that bound the costs of a box or prove it empty, and splits. Multipliers are pairs of a row's number, from 1,
-- and a value that isn't 0, rows rising.
use Rattle.std.specs.Prelude.{ℕ, ◌≢◌, ◌<◌, ◌≤◌, ◌+◌, List, [], ◌∷◌, Option, ℤ, pos, unsigned_abs}
use Rattle.algebra.specs.Scale.{IsScale, greatest_scale}
use Rattle.milp_builder.specs.declared.boxes.Split.{Split}
use Rattle.cert_tree.specs.declared.tree.Why.{Why}
use Rattle.cert_tree.specs.declared.tree.Tree.{Tree}
use Rattle.cert_tree.specs.declared.tree.Tree.TheOpen.{Tree-F}
use Rattle.cert_tree.specs.declared.tree.Tree.TheFolds.{fold-Tree}

-- a tree of boxes: a leaf with a scale, multipliers and the cause for which it was left open, if it was; a leaf that proves its box
-- empty; a box split into two
pub data BoxTree : Type 0 where
  low : ℤ → List (ℕ × ℤ) → Option Why → BoxTree
  dead : List (ℕ × ℤ) → BoxTree
  fork : Split → BoxTree → BoxTree → BoxTree

-- one node of a tree as it is stored, with these trees of boxes in the places of its parts
abbrev pub box_node_of : Tree-F BoxTree → BoxTree
box_node_of (Tree-F.Low scale mults cause) = low scale mults cause
box_node_of (Tree-F.Dead mults) = dead mults
box_node_of (Tree-F.Split split first second) = fork split first second

-- the tree of boxes that a tree as it is stored stands for
abbrev pub box_tree_of : Tree → BoxTree
box_tree_of = fold-Tree BoxTree box_node_of

-- a multiplier of one of the rows behind another: it isn't 0, and its magnitude is at most 2^40
pub record IsMultiplierBehind (rows before : ℕ) (mult : ℕ × ℤ) : Type 0 where
  pub behind : before < mult.0
  pub row : mult.0 ≤ rows
  pub some : mult.1 ≢ pos 0
  pub within : unsigned_abs mult.1 ≤ greatest_scale

-- multipliers of rows behind one, each row behind the one before
abbrev pub AreMultipliersBehind : ℕ → ℕ → List (ℕ × ℤ) → Type 0
AreMultipliersBehind rows before [] = Unit {0}
AreMultipliersBehind rows before (mult ∷ mults) =
    IsMultiplierBehind rows before mult × AreMultipliersBehind rows mult.0 mults

-- every multiplier stands on one of so many rows and within its width, and every scale is within its own
abbrev pub IsWithinWidths : ℕ → BoxTree → Type 0
IsWithinWidths rows (low scale mults cause) = IsScale scale × AreMultipliersBehind rows 0 mults
IsWithinWidths rows (dead mults) = AreMultipliersBehind rows 0 mults
IsWithinWidths rows (fork split first second) = IsWithinWidths rows first × IsWithinWidths rows second

-- the number of nodes
abbrev pub node_count : BoxTree → ℕ
node_count (low scale mults cause) = 1
node_count (dead mults) = 1
node_count (fork split first second) = 1 + node_count first + node_count second
