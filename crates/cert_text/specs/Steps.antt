-- A reader of nodes, one at a time in preorder: the levels of the trees that are still due, and what a step is.
use Rattle.std.specs.Prelude.{ℕ, ◌≡◌, ◌<◌, List, [], ◌∷◌, ◌++◌, ℤ}
use Rattle.text_parts.specs.Lines.{Reading, text_of}
use Rattle.cert_tree.specs.Trees.{BoxTree, low, dead, fork}
use Rattle.cert_text.specs.declared.step.Step.{Step}
use Rattle.cert_text.specs.declared.step.Step.TheVariants.{Low, Dead, Split as AtSplit, End}
use Rattle.cert_text.specs.NodeText.{Root, low_leaf, dead_leaf, split_at, root_text, tree_text, IsRoot, IsSpelledTree}

-- what is still to be read: trees over so many rows, with the levels that are left to each, the next first
pub record TreesDue : Type 0 where
  pub rows : ℕ
  pub levels : List ℕ

-- a buffer for a leaf's multipliers, and how many it has room for
pub record Leaf : Type 0 where
  pub mults : List (ℕ × ℤ)
  pub room : ℕ

-- the step of a node
abbrev pub step_of : Root → Step
step_of (low_leaf scale mults cause) = Low scale cause
step_of (dead_leaf mults) = Dead
step_of (split_at split) = AtSplit split

-- the last leaf's multipliers after a node
abbrev pub mults_after : Root → List (ℕ × ℤ) → List (ℕ × ℤ)
mults_after (low_leaf scale mults cause) last = mults
mults_after (dead_leaf mults) last = mults
mults_after (split_at split) last = last

-- the levels of the trees due behind a node, those below a split being left so many
abbrev pub levels_after : Step → ℕ → List ℕ → List ℕ
levels_after (Low scale cause) level others = others
levels_after Dead level others = others
levels_after (AtSplit split) level others = level ∷ level ∷ others
levels_after End level others = others

-- what stands at the root of a tree
abbrev pub root_of : BoxTree → Root
root_of (low scale mults cause) = low_leaf scale mults cause
root_of (dead mults) = dead_leaf mults
root_of (fork split first second) = split_at split

-- the trees behind the first one's root
abbrev pub trees_behind : BoxTree → List BoxTree → List BoxTree
trees_behind (low scale mults cause) trees = trees
trees_behind (dead mults) trees = trees
trees_behind (fork split first second) trees = first ∷ second ∷ trees

-- the texts of trees, one after another
abbrev pub forest_text : List BoxTree → List ℕ
forest_text [] = []
forest_text (tree ∷ trees) = tree_text tree ++ forest_text trees

-- each tree has a text on the levels that are left to it
abbrev pub AreDue : ℕ → List ℕ → List BoxTree → Type 0
AreDue rows [] [] = Unit {0}
AreDue rows (level ∷ levels) (tree ∷ trees) = IsSpelledTree rows level tree × AreDue rows levels trees
AreDue rows _ _ = ⊥

-- the lines of a step's node, a leaf's with the multipliers that were read
abbrev pub step_text : Step → List (ℕ × ℤ) → List ℕ
step_text (Low scale cause) mults = root_text (low_leaf scale mults cause)
step_text Dead mults = root_text (dead_leaf mults)
step_text (AtSplit split) mults = root_text (split_at split)
step_text End mults = []

-- a tree is due, and where it has a level left the lines that are left don't begin with a node's
pub record NoNodeIsNext (rows : ℕ) (levels : List ℕ) (lines : Reading) : Type 0 where
  pub level : ℕ
  pub others : List ℕ
  pub is_due : levels ≡ level ∷ others
  pub none : (root : Root) (rest : List ℕ) → 0 < level → IsRoot rows root → ¬ (text_of lines.left ≡ root_text root ++ rest)

-- the step is at the root of the first tree, and the texts of the trees behind it are left
pub record IsAtFirst (rows : ℕ) (tree : BoxTree) (trees : List BoxTree) (rest : List ℕ) (step : Step) (last mults : List (ℕ × ℤ)) (levels : List ℕ) (lines : Reading) : Type 0 where
  pub step_is : step ≡ step_of (root_of tree)
  pub mults_is : mults ≡ mults_after (root_of tree) last
  pub are_due : AreDue rows levels (trees_behind tree trees)
  pub text_is : text_of lines.left ≡ forest_text (trees_behind tree trees) ++ rest

-- the step at the front of these trees; where there is none it is the end
abbrev pub IsStepAt : ℕ → List BoxTree → List ℕ → Step → List (ℕ × ℤ) → List (ℕ × ℤ) → List ℕ → Reading → Type 0
IsStepAt rows [] rest step last mults levels lines = step ≡ End
IsStepAt rows (tree ∷ trees) rest step last mults levels lines = IsAtFirst rows tree trees rest step last mults levels lines
