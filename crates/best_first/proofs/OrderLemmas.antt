-- Splitting an open leaf of least key, and ending open leaves, keep the order of a tree.
use Rattle.std.proofs.Common.{sym, subst, inl, inr, ⊎_elim}
use Rattle.std.specs.Prelude.{ℤ}
use Rattle.best_first.specs.Keys.{IsAtMost}
use Rattle.best_first.specs.KeyTrees.{KeyTree, ended, open_leaf, parted}
use Rattle.best_first.specs.inside.Covers.{CoversKey, AreCovered, IsOrderedTree, IsAtMostOpen, IsLeaf, IsSplitOnce, IsEndedInPart}

-- a key at most that of each open leaf is covered
pub covers_open : (key : ℤ × ℤ) (tree : KeyTree) → IsAtMostOpen key tree → CoversKey key tree
covers_open key ended h = tt
covers_open key (open_leaf own) h = h
covers_open key (parted own first second) h = inr (covers_open key first h.0, covers_open key second h.1)

-- a tree with one more split covers what it covered
covers_split : (key p : ℤ × ℤ) (old new : KeyTree) → IsSplitOnce key old new → CoversKey p old → CoversKey p new
covers_split key p ended new s h = absurd s
covers_split key p (open_leaf own) ended s h = absurd s
covers_split key p (open_leaf own) (open_leaf other) s h = absurd s
covers_split key p (open_leaf own) (parted new first second) s h =
    inl (subst (IsAtMost p) (sym s.1) (subst (IsAtMost p) s.0 h))
covers_split key p (parted own first second) ended s h = absurd s
covers_split key p (parted own first second) (open_leaf other) s h = absurd s
covers_split key p (parted own first second) (parted new first' second') s h =
    ⊎_elim
    (λ at. inl (subst (IsAtMost p) (sym s.0) at))
    (λ both. inr (⊎_elim
    (λ in_first. (covers_split key p first first' in_first.0 both.0, subst (CoversKey p) (sym in_first.1) both.1))
    (λ in_second. (subst (CoversKey p) (sym in_second.0) both.0, covers_split key p second second' in_second.1 both.1))
    s.1))
    h

-- every split that a tree covers is covered by it with one more split
covered_by_split : (key : ℤ × ℤ) (tree old new : KeyTree) → IsSplitOnce key old new → AreCovered tree old → AreCovered tree new
covered_by_split key ended old new s h = tt
covered_by_split key (open_leaf own) old new s h = tt
covered_by_split key (parted own first second) old new s h =
    (covers_split key own old new s h.0, covered_by_split key first old new s h.1, covered_by_split key second old new s h.2)

leaf_covered : (tree other : KeyTree) → IsLeaf tree → AreCovered tree other
leaf_covered ended other h = tt
leaf_covered (open_leaf key) other h = tt
leaf_covered (parted key first second) other h = absurd h

leaf_ordered : (tree : KeyTree) → IsLeaf tree → IsOrderedTree tree
leaf_ordered ended h = tt
leaf_ordered (open_leaf key) h = tt
leaf_ordered (parted key first second) h = absurd h

-- the one more split is covered by a tree whose open leaves have no lesser key
split_covered : (key : ℤ × ℤ) (old new other : KeyTree) → IsSplitOnce key old new → IsAtMostOpen key other → AreCovered old other → AreCovered new other
split_covered key ended new other s least h = absurd s
split_covered key (open_leaf own) ended other s least h = absurd s
split_covered key (open_leaf own) (open_leaf new) other s least h = absurd s
split_covered key (open_leaf own) (parted new first second) other s least h =
    (subst (λ k. CoversKey k other) (sym s.1) (covers_open key other least), leaf_covered first other s.2, leaf_covered second other s.3)
split_covered key (parted own first second) ended other s least h = absurd s
split_covered key (parted own first second) (open_leaf new) other s least h = absurd s
split_covered key (parted own first second) (parted new first' second') other s least h =
    ⊎_elim
    (λ i. (subst (λ k. CoversKey k other) (sym s.0) h.0, split_covered key first first' other i.0 least h.1, subst (λ t. AreCovered t other) (sym i.1) h.2))
    (λ i. (subst (λ k. CoversKey k other) (sym s.0) h.0, subst (λ t. AreCovered t other) (sym i.0) h.1, split_covered key second second' other i.1 least h.2))
    s.1

-- splitting an open leaf of least key keeps the order
pub ordered_split : (key : ℤ × ℤ) (old new : KeyTree) → IsSplitOnce key old new → IsAtMostOpen key old → IsOrderedTree old → IsOrderedTree new
ordered_split key ended new s least h = absurd s
ordered_split key (open_leaf own) ended s least h = absurd s
ordered_split key (open_leaf own) (open_leaf new) s least h = absurd s
ordered_split key (open_leaf own) (parted new first second) s least h =
    (leaf_ordered first s.2, leaf_ordered second s.3, leaf_covered first second s.2, leaf_covered second first s.3)
ordered_split key (parted own first second) ended s least h = absurd s
ordered_split key (parted own first second) (open_leaf new) s least h = absurd s
ordered_split key (parted own first second) (parted new first' second') s least h =
    ⊎_elim
    (λ i. let P : KeyTree → Type 0 = λ t. IsOrderedTree first' × IsOrderedTree t × AreCovered first' t × AreCovered t first' in
    subst P (sym i.1) (
      ordered_split key first first' i.0 least.0 h.0,
      h.1,
      split_covered key first first' second i.0 least.1 h.2,
      covered_by_split key second first first' i.0 h.3,
    ))
    (λ i. let P : KeyTree → Type 0 = λ t. IsOrderedTree t × IsOrderedTree second' × AreCovered t second' × AreCovered second' t in
    subst P (sym i.0) (
      h.0,
      ordered_split key second second' i.1 least.1 h.1,
      covered_by_split key first second second' i.1 h.2,
      split_covered key second second' first i.1 least.0 h.3,
    ))
    s.1

-- a tree with some open leaves ended covers what it covered
covers_ended : (p : ℤ × ℤ) (old new : KeyTree) → IsEndedInPart old new → CoversKey p old → CoversKey p new
covers_ended p ended ended e h = tt
covers_ended p ended (open_leaf new) e h = absurd e
covers_ended p ended (parted new first second) e h = absurd e
covers_ended p (open_leaf own) ended e h = tt
covers_ended p (open_leaf own) (open_leaf new) e h = subst (IsAtMost p) (sym e) h
covers_ended p (open_leaf own) (parted new first second) e h = absurd e
covers_ended p (parted own first second) ended e h = absurd e
covers_ended p (parted own first second) (open_leaf new) e h = absurd e
covers_ended p (parted own first second) (parted new first' second') e h =
    ⊎_elim
    (λ at. inl (subst (IsAtMost p) (sym e.0) at))
    (λ both. inr (covers_ended p first first' e.1 both.0, covers_ended p second second' e.2 both.1))
    h

covered_ended : (old new other other' : KeyTree) → IsEndedInPart old new → IsEndedInPart other other' → AreCovered old other → AreCovered new other'
covered_ended ended ended other other' e o h = tt
covered_ended ended (open_leaf new) other other' e o h = absurd e
covered_ended ended (parted new first second) other other' e o h = absurd e
covered_ended (open_leaf own) ended other other' e o h = tt
covered_ended (open_leaf own) (open_leaf new) other other' e o h = tt
covered_ended (open_leaf own) (parted new first second) other other' e o h = absurd e
covered_ended (parted own first second) ended other other' e o h = absurd e
covered_ended (parted own first second) (open_leaf new) other other' e o h = absurd e
covered_ended (parted own first second) (parted new first' second') other other' e o h =
    (subst (λ k. CoversKey k other') (sym e.0) (covers_ended own other other' o h.0), covered_ended first first' other other' e.1 o h.1, covered_ended second second' other other' e.2 o h.2)

-- ending open leaves keeps the order
pub ordered_ended : (old new : KeyTree) → IsEndedInPart old new → IsOrderedTree old → IsOrderedTree new
ordered_ended ended ended e h = tt
ordered_ended ended (open_leaf new) e h = absurd e
ordered_ended ended (parted new first second) e h = absurd e
ordered_ended (open_leaf own) ended e h = tt
ordered_ended (open_leaf own) (open_leaf new) e h = tt
ordered_ended (open_leaf own) (parted new first second) e h = absurd e
ordered_ended (parted own first second) ended e h = absurd e
ordered_ended (parted own first second) (open_leaf new) e h = absurd e
ordered_ended (parted own first second) (parted new first' second') e h =
    (ordered_ended first first' e.1 h.0, ordered_ended second second' e.2 h.1, covered_ended first first' second second' e.1 e.2 h.2, covered_ended second second' first first' e.2 e.1 h.3)
