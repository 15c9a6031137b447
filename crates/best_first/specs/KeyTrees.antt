-- Trees of keys: what is left of a tree of boxes when only the order is asked in which its nodes were split. A tree was grown best
-- first where no split passed over a leaf that then stayed open: on the path to each open leaf stands a node that isn't above the
-- split and whose key is at least the split's.
use Rattle.std.specs.Prelude.{◌≡◌, List, [], ◌∷◌, ◌++◌, Option, Some, None, ℤ}
use Rattle.best_first.specs.Keys.{IsAtMost}

-- a leaf that was ended, a leaf that was left open for want of nodes, with its key, and a split with its key and its two parts
pub data KeyTree : Type 0 where
  ended : KeyTree
  open_leaf : ℤ × ℤ → KeyTree
  parted : ℤ × ℤ → KeyTree → KeyTree → KeyTree

-- one step down from a split, to its first or its second part; a path is a list of steps from the root
pub data Step : Type 0 where
  to_first : Step
  to_second : Step

-- the subtree at the end of a path
abbrev pub subtree : KeyTree → List Step → Option KeyTree
subtree tree [] = Some tree
subtree (parted key x y) (to_first ∷ path) = subtree x path
subtree (parted key x y) (to_second ∷ path) = subtree y path
subtree ended (step ∷ path) = None
subtree (open_leaf key) (step ∷ path) = None

-- the key of a tree's root
abbrev pub root_key : KeyTree → Option (ℤ × ℤ)
root_key ended = None
root_key (open_leaf key) = Some key
root_key (parted key x y) = Some key

-- one path ends at a node that stands above the end of another
abbrev pub IsAbove : List Step → List Step → Type 0
IsAbove path other = (step : Step) × (more : List Step) × (path ++ (step ∷ more) ≡ other)

-- on the path to a leaf, both ends included, stands a node that isn't above the split and whose key is at least the given one
pub record HasGreaterOnPath (tree : KeyTree) (split leaf : List Step) (key : ℤ × ℤ) : Type 0 where
  pub path : List Step
  pub rest : List Step
  pub on_path : path ++ rest ≡ leaf
  pub not_above : IsAbove path split → ⊥
  pub node : KeyTree
  pub stands : subtree tree path ≡ Some node
  pub own : ℤ × ℤ
  pub own_key : root_key node ≡ Some own
  pub at_least : IsAtMost key own

-- each split and each open leaf are in this order
pub record IsBestFirst (tree : KeyTree) : Type 0 where
  pub each : (split leaf : List Step) (key leaf_key : ℤ × ℤ) (first second : KeyTree)
      → subtree tree split ≡ Some (parted key first second) → subtree tree leaf ≡ Some (open_leaf leaf_key)
      → HasGreaterOnPath tree split leaf key
