-- That a tree was grown best first, by recursion: each split's key is covered by the trees beside it. A tree covers a key where its
-- own key is at least that, or both its parts cover it; a leaf that was ended covers every key.
use Rattle.std.specs.Prelude.{◌≡◌, ◌⊎◌, List, [], ◌∷◌, ◌++◌, ℤ}
use Rattle.best_first.specs.Keys.{IsAtMost}
use Rattle.best_first.specs.KeyTrees.{KeyTree, ended, open_leaf, parted}

-- on every path down to an open leaf stands a key of at least the given one
abbrev pub CoversKey : ℤ × ℤ → KeyTree → Type 0
CoversKey key ended = Unit {0}
CoversKey key (open_leaf own) = IsAtMost key own
CoversKey key (parted own first second) = IsAtMost key own ⊎ (CoversKey key first × CoversKey key second)

-- the other tree covers the key of each split of the tree
abbrev pub AreCovered : KeyTree → KeyTree → Type 0
AreCovered ended other = Unit {0}
AreCovered (open_leaf key) other = Unit {0}
AreCovered (parted key first second) other = CoversKey key other × AreCovered first other × AreCovered second other

-- at each split the two parts cover each other's splits
abbrev pub IsOrderedTree : KeyTree → Type 0
IsOrderedTree ended = Unit {0}
IsOrderedTree (open_leaf key) = Unit {0}
IsOrderedTree (parted key first second) =
    IsOrderedTree first × IsOrderedTree second × AreCovered first second × AreCovered second first

-- the keys of the open leaves, in the order of their paths
abbrev pub open_keys : KeyTree → List (ℤ × ℤ)
open_keys ended = []
open_keys (open_leaf key) = key ∷ []
open_keys (parted key first second) = open_keys first ++ open_keys second

-- the key is at most that of each open leaf
abbrev pub IsAtMostOpen : ℤ × ℤ → KeyTree → Type 0
IsAtMostOpen key ended = Unit {0}
IsAtMostOpen key (open_leaf own) = IsAtMost key own
IsAtMostOpen key (parted own first second) = IsAtMostOpen key first × IsAtMostOpen key second

-- a leaf without splits
abbrev pub IsLeaf : KeyTree → Type 0
IsLeaf ended = Unit {0}
IsLeaf (open_leaf key) = Unit {0}
IsLeaf (parted key first second) = ⊥

-- `new` is `old` with one open leaf of this key split into two leaves
abbrev pub IsSplitOnce : ℤ × ℤ → KeyTree → KeyTree → Type 0
IsSplitOnce key (open_leaf own) (parted new first second) = (own ≡ key) × (new ≡ key) × IsLeaf first × IsLeaf second
IsSplitOnce key (parted own first second) (parted new first' second') =
    (new ≡ own) × ((IsSplitOnce key first first' × (second' ≡ second)) ⊎ ((first' ≡ first) × IsSplitOnce key second second'))
IsSplitOnce key _ _ = ⊥

-- `new` is `old` with some open leaves ended
abbrev pub IsEndedInPart : KeyTree → KeyTree → Type 0
IsEndedInPart ended ended = Unit {0}
IsEndedInPart (open_leaf own) ended = Unit {0}
IsEndedInPart (open_leaf own) (open_leaf new) = new ≡ own
IsEndedInPart (parted own first second) (parted new first' second') =
    (new ≡ own) × IsEndedInPart first first' × IsEndedInPart second second'
IsEndedInPart _ _ = ⊥
