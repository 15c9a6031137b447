-- A tree that is ordered by recursion was grown best first.
use Rattle.std.proofs.Common.{◌≡◌, List, [], ◌∷◌, ◌++◌, Some, ap, subst, refl, ⊎_elim}
use Rattle.std.specs.Prelude.{ℤ}
use Rattle.best_first.specs.Keys.{IsAtMost}
use Rattle.best_first.specs.KeyTrees.{KeyTree, ended, open_leaf, parted, Step, to_first, to_second, subtree, root_key, IsAbove, HasGreaterOnPath, IsBestFirst}
use Rattle.best_first.specs.inside.Covers.{CoversKey, AreCovered, IsOrderedTree}
use Rattle.best_first.proofs.KeyLemmas.{at_most_itself}

-- on the path to an open leaf of a tree that covers the key stands a node whose key is at least that
record Witness (tree : KeyTree) (leaf : List Step) (key : ℤ × ℤ) : Type 0 where
  path : List Step
  rest : List Step
  on_path : path ++ rest ≡ leaf
  node : KeyTree
  stands : subtree tree path ≡ Some node
  own : ℤ × ℤ
  own_key : root_key node ≡ Some own
  at_least : IsAtMost key own

root_witness : (tree : KeyTree) (leaf : List Step) (key own : ℤ × ℤ) → root_key tree ≡ Some own → IsAtMost key own → Witness tree leaf key
root_witness tree leaf key own is h =
    record { path = []; rest = leaf; on_path = refl; node = tree; stands = refl; own = own; own_key = is; at_least = h }

below_first : (top key : ℤ × ℤ) (first second : KeyTree) (leaf : List Step) → Witness first leaf key → Witness (parted top first second) (to_first ∷ leaf) key
below_first top key first second leaf w =
    record { path = to_first ∷ w.path; rest = w.rest; on_path = ap (λ p. to_first ∷ p) w.on_path; node = w.node; stands = w.stands; own = w.own; own_key = w.own_key; at_least = w.at_least }

below_second : (top key : ℤ × ℤ) (first second : KeyTree) (leaf : List Step) → Witness second leaf key → Witness (parted top first second) (to_second ∷ leaf) key
below_second top key first second leaf w =
    record { path = to_second ∷ w.path; rest = w.rest; on_path = ap (λ p. to_second ∷ p) w.on_path; node = w.node; stands = w.stands; own = w.own; own_key = w.own_key; at_least = w.at_least }

covered_on_path : (tree : KeyTree) (leaf : List Step) (key leaf_key : ℤ × ℤ) → CoversKey key tree → subtree tree leaf ≡ Some (open_leaf leaf_key) → Witness tree leaf key
covered_on_path ended [] key leaf_key h e = absurd (cc)
covered_on_path ended (step ∷ leaf) key leaf_key h e = absurd (cc)
covered_on_path (open_leaf own) leaf key leaf_key h e = root_witness (open_leaf own) leaf key own refl h
covered_on_path (parted own first second) [] key leaf_key h e = absurd (cc)
covered_on_path (parted own first second) (to_first ∷ leaf) key leaf_key h e =
    ⊎_elim
    (λ at. root_witness (parted own first second) (to_first ∷ leaf) key own refl at)
    (λ both. below_first own key first second leaf (covered_on_path first leaf key leaf_key both.0 e))
    h
covered_on_path (parted own first second) (to_second ∷ leaf) key leaf_key h e =
    ⊎_elim
    (λ at. root_witness (parted own first second) (to_second ∷ leaf) key own refl at)
    (λ both. below_second own key first second leaf (covered_on_path second leaf key leaf_key both.1 e))
    h

-- the tree covers each split of another tree beside it
covered_splits : (tree other : KeyTree) (split : List Step) (key : ℤ × ℤ) (first second : KeyTree) → AreCovered tree other → subtree tree split ≡ Some (parted key first second) → CoversKey key other
covered_splits ended other [] key first second h e = absurd (cc)
covered_splits ended other (step ∷ split) key first second h e = absurd (cc)
covered_splits (open_leaf own) other [] key first second h e = absurd (cc)
covered_splits (open_leaf own) other (step ∷ split) key first second h e = absurd (cc)
covered_splits (parted own x y) other [] key first second h e =
    let same : own ≡ key = cc in subst (λ k. CoversKey k other) same h.0
covered_splits (parted own x y) other (to_first ∷ split) key first second h e = covered_splits x other split key first second h.1 e
covered_splits (parted own x y) other (to_second ∷ split) key first second h e = covered_splits y other split key first second h.2 e

-- which side of a split a path goes: paths to different sides don't stand above each other
sides_differ : (path split : List Step) → IsAbove (to_first ∷ path) (to_second ∷ split) → ⊥
sides_differ path split h = let e = h.2 in cc

sides_differ_too : (path split : List Step) → IsAbove (to_second ∷ path) (to_first ∷ split) → ⊥
sides_differ_too path split h = let e = h.2 in cc

-- nothing is above the root
none_above : (path : List Step) → IsAbove path [] → ⊥
none_above [] h = let e = h.2 in cc
none_above (step ∷ path) h = let e = h.2 in cc

-- a path above another with the same first step
above_tail : (step : Step) (path split : List Step) → IsAbove (step ∷ path) (step ∷ split) → IsAbove path split
above_tail step path split h = let e = h.2 in (h.0, h.1, cc)

-- a witness that isn't above the split
aside : (tree : KeyTree) (split leaf : List Step) (key : ℤ × ℤ) (w : Witness tree leaf key) → (IsAbove w.path split → ⊥) → HasGreaterOnPath tree split leaf key
aside tree split leaf key w none =
    record { path = w.path; rest = w.rest; on_path = w.on_path; not_above = none; node = w.node; stands = w.stands; own = w.own; own_key = w.own_key; at_least = w.at_least }

under_first : (top key : ℤ × ℤ) (first second : KeyTree) (split leaf : List Step) → HasGreaterOnPath first split leaf key → HasGreaterOnPath (parted top first second) (to_first ∷ split) (to_first ∷ leaf) key
under_first top key first second split leaf w =
    record { path = to_first ∷ w.path; rest = w.rest; on_path = ap (λ p. to_first ∷ p) w.on_path; not_above = λ h. w.not_above (above_tail to_first w.path split h); node = w.node; stands = w.stands; own = w.own; own_key = w.own_key; at_least = w.at_least }

under_second : (top key : ℤ × ℤ) (first second : KeyTree) (split leaf : List Step) → HasGreaterOnPath second split leaf key → HasGreaterOnPath (parted top first second) (to_second ∷ split) (to_second ∷ leaf) key
under_second top key first second split leaf w =
    record { path = to_second ∷ w.path; rest = w.rest; on_path = ap (λ p. to_second ∷ p) w.on_path; not_above = λ h. w.not_above (above_tail to_second w.path split h); node = w.node; stands = w.stands; own = w.own; own_key = w.own_key; at_least = w.at_least }

ordered_on_paths : (tree : KeyTree) (split leaf : List Step) (key leaf_key : ℤ × ℤ) (first second : KeyTree) → IsOrderedTree tree
    → subtree tree split ≡ Some (parted key first second) → subtree tree leaf ≡ Some (open_leaf leaf_key) → HasGreaterOnPath tree split leaf key
unfolding root_witness below_second below_first
ordered_on_paths ended [] leaf key leaf_key first second o s l = absurd (cc)
ordered_on_paths ended (step ∷ split) leaf key leaf_key first second o s l = absurd (cc)
ordered_on_paths (open_leaf own) [] leaf key leaf_key first second o s l = absurd (cc)
ordered_on_paths (open_leaf own) (step ∷ split) leaf key leaf_key first second o s l = absurd (cc)
ordered_on_paths (parted own x y) [] leaf key leaf_key first second o s l =
    let same : key ≡ own = cc in
    aside (parted own x y) [] leaf key
    (root_witness (parted own x y) leaf key own refl (subst (λ k. IsAtMost key k) same (at_most_itself key)))
    (λ h. none_above [] h)
ordered_on_paths (parted own x y) (step ∷ split) [] key leaf_key first second o s l = absurd (cc)
ordered_on_paths (parted own x y) (to_first ∷ split) (to_first ∷ leaf) key leaf_key first second o s l =
    under_first own key x y split leaf (ordered_on_paths x split leaf key leaf_key first second o.0 s l)
ordered_on_paths (parted own x y) (to_first ∷ split) (to_second ∷ leaf) key leaf_key first second o s l =
    let w = covered_on_path y leaf key leaf_key (covered_splits x y split key first second o.2 s) l in
    aside (parted own x y) (to_first ∷ split) (to_second ∷ leaf) key (below_second own key x y leaf w) (λ h. sides_differ_too w.path split h)
ordered_on_paths (parted own x y) (to_second ∷ split) (to_first ∷ leaf) key leaf_key first second o s l =
    let w = covered_on_path x leaf key leaf_key (covered_splits y x split key first second o.3 s) l in
    aside (parted own x y) (to_second ∷ split) (to_first ∷ leaf) key (below_first own key x y leaf w) (λ h. sides_differ w.path split h)
ordered_on_paths (parted own x y) (to_second ∷ split) (to_second ∷ leaf) key leaf_key first second o s l =
    under_second own key x y split leaf (ordered_on_paths y split leaf key leaf_key first second o.1 s l)

pub best_first_of : (tree : KeyTree) → IsOrderedTree tree → IsBestFirst tree
best_first_of tree o = record { each = λ split leaf key leaf_key first second s l. ordered_on_paths tree split leaf key leaf_key first second o s l }
