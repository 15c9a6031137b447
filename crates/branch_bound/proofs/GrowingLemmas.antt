-- One waiting leaf split into two leaves: the tree stays good, its keys are split once, and it has two more nodes.
use Rattle.std.proofs.Common.{◌≡◌, ℕ, ◌+◌, ◌-◌, ◌≤◌, ◌<◌, Bool, true, false, cond, nat_lt, Option, Some, [], ◌∷◌, ◌++◌, length, length-append, refl, ap, subst, arith, inl, inr, ⊎_elim, ◌∙◌}
use Rattle.std.specs.Prelude.{ℤ, pos}
use Rattle.std.proofs.lemmas.Bool.Decides.{nat_tests}
use Rattle.std.proofs.lemmas.Bool.{cases_lt}
use Rattle.std.proofs.lemmas.List.{get_or_append_left, get_or-append-add}
use Rattle.numbers.specs.Fractions.{Fraction}
use Rattle.road_types.specs.declared.road.Road.{Road}
use Rattle.milp_builder.specs.Parts.{first_part, second_part}
use Rattle.milp_builder.specs.BoxPrograms.{box_program}
use Rattle.milp_builder.specs.declared.boxes.BoxRange.{BoxRange}
use Rattle.milp_builder.specs.declared.boxes.Split.{Split}
use Rattle.programs.specs.Programs.{Program}
use Rattle.tableau.specs.Tableaux.{Tableau}
use Rattle.tableau.specs.OwnNumbers.{scale_of, multipliers_of}
use Rattle.best_first.specs.Keys.{IsAtMost, key_at, IsFirstLeast}
use Rattle.best_first.specs.KeyTrees.{KeyTree, ended, open_leaf, parted}
use Rattle.best_first.specs.inside.Covers.{IsOrderedTree, IsAtMostOpen, IsLeaf, IsSplitOnce, open_keys}
use Rattle.best_first.proofs.OrderLemmas.{ordered_split}
use Rattle.branch_bound.specs.inside.Grown.{Grown, dead_leaf, whole_leaf, stopped_leaf, waiting_leaf, grown_fork, IsGoodNode, IsReason, split_note, proved_key, keys_of, IsGrownLeaf, node_total, waiting_count, waiting_at, parted_at}
use Rattle.branch_bound.specs.Stops.{IsStop}
use Rattle.branch_bound.specs.NoteKeys.{IsNarrowKey, IsKeyOf}
use Rattle.branch_bound.specs.Noted.{IsShownSplit}
use Rattle.branch_bound.specs.declared.notes.NodeNote.{NodeNote}
use Rattle.branch_bound.specs.declared.notes.NodeNote.TheVariants.{Fractional, Closed, Dead, Pivots, Wide, Limit, Nodes}
use Rattle.branch_bound.specs.declared.work.Reason.{Reason}
use Rattle.branch_bound.specs.declared.work.Reason.TheVariants.{Asked, Stop}
use Rattle.branch_bound.specs.declared.work.Waiting.{Waiting}

leaf_keys : (leaf : Grown) → IsGrownLeaf leaf → IsLeaf (keys_of leaf)
leaf_keys (dead_leaf mults) h = tt
leaf_keys (whole_leaf proved) h = tt
leaf_keys (stopped_leaf proved note) h = tt
leaf_keys (waiting_leaf leaf) h = tt
leaf_keys (grown_fork split note key first second) h = absurd h

leaf_total : (leaf : Grown) → IsGrownLeaf leaf → node_total leaf ≡ 1
leaf_total (dead_leaf mults) h = refl
leaf_total (whole_leaf proved) h = refl
leaf_total (stopped_leaf proved note) h = refl
leaf_total (waiting_leaf leaf) h = refl
leaf_total (grown_fork split note key first second) h = absurd h

-- both sides of a test
at_test : {A : Type 0} (P : A → Type 0) (b : Bool) (x y : A) → (b ≡ true → P x) → (b ≡ false → P y) → P (cond b x y)
at_test P true x y h k = h refl
at_test P false x y h k = k refl

pub at_either : {A : Type 0} (P : A → Type 0) (b : Bool) (x y : A) → P x → P y → P (cond b x y)
at_either P true x y h k = h
at_either P false x y h k = k

test_of_less : (a b : ℕ) → a < b → nat_lt a b ≡ true
test_of_less a b h = grind (arith, nat_tests)

test_of_more : (a b : ℕ) → b ≤ a → nat_lt a b ≡ false
test_of_more a b h = grind (arith, nat_tests)

-- what a test gives, in both sides at once
both_tests : {A B : Type 0} (P : A → B → Type 0) (b : Bool) (x y : A) (u v : B) → (b ≡ true → P x u) → (b ≡ false → P y v) → P (cond b x y) (cond b u v)
both_tests P true x y u v h k = h refl
both_tests P false x y u v h k = k refl

-- a stop is the note of a split, and has a key
stop_splits : (road : Road) (cost : Option Fraction) (program : Program) (split : Split) (note : NodeNote) (t : Tableau) → IsStop road cost program note t
    → IsShownSplit road cost program split note
stop_splits road cost program split (Pivots trail) t h = (t, h)
stop_splits road cost program split (Wide trail op) t h = (t, h)
stop_splits road cost program split (Limit trail number) t h = (t, h)
stop_splits road cost program split Closed t h = absurd h
stop_splits road cost program split Dead t h = absurd h
stop_splits road cost program split (Fractional trail den point scale mults) t h = absurd h
stop_splits road cost program split (Nodes trail den point scale mults) t h = absurd h

stop_key : (road : Road) (cost : Option Fraction) (program : Program) (key : ℤ × ℤ) (note : NodeNote) (t : Tableau) → IsStop road cost program note t
    → IsNarrowKey program (scale_of t) (multipliers_of t) key → IsKeyOf program note key
stop_key road cost program key (Pivots trail) t h n = (t, (h.0.after, n))
stop_key road cost program key (Wide trail op) t h n = (t, (h.0.after, n))
stop_key road cost program key (Limit trail number) t h n = (t, (h.0.after, n))
stop_key road cost program key Closed t h n = absurd h
stop_key road cost program key Dead t h n = absurd h
stop_key road cost program key (Fractional trail den point scale mults) t h n = absurd h
stop_key road cost program key (Nodes trail den point scale mults) t h n = absurd h

-- so is, and has, the reason for which a leaf waits
reason_splits : (road : Road) (cost : Option Fraction) (program : Program) (split : Split) (key : ℤ × ℤ) (reason : Reason)
    → IsReason road cost program split key reason → IsShownSplit road cost program split (split_note reason)
reason_splits road cost program split key (Asked o) h = (h.optimum, h.asks)
reason_splits road cost program split key (Stop note) h = stop_splits road cost program split note h.tableau h.stop

reason_key : (road : Road) (cost : Option Fraction) (program : Program) (split : Split) (key : ℤ × ℤ) (reason : Reason)
    → IsReason road cost program split key reason → IsKeyOf program (split_note reason) key
reason_key road cost program split key (Asked o) h = h.narrow_key
reason_key road cost program split key (Stop note) h = stop_key road cost program key note h.tableau h.stop h.narrow_key

module _ (road : Road) (cost : Option Fraction) (one two : Grown) where
  -- the two new leaves are good on the parts of the leaf that they replace
  pub record AreGoodParts (leaf : Waiting) : Type 0 where
    pub first : IsGoodNode road cost one (first_part leaf.range leaf.split)
    pub second : IsGoodNode road cost two (second_part leaf.range leaf.split)

  pub good_parted : (grown : Grown) (box : BoxRange) (at : ℕ) (leaf : Waiting) → IsGoodNode road cost grown box
      → waiting_at grown at ≡ Some leaf → AreGoodParts leaf → IsGoodNode road cost (parted_at grown at one two) box
  good_parted (dead_leaf mults) box at leaf good e parts = cc
  good_parted (whole_leaf proved) box at leaf good e parts = cc
  good_parted (stopped_leaf proved note) box at leaf good e parts = cc
  good_parted (waiting_leaf own) box at leaf good e parts =
      let same : leaf ≡ own = cc in
      let mine : AreGoodParts own = subst (λ (l : Waiting). AreGoodParts l) same parts in (
        good.splits,
        reason_splits road cost (box_program road box) own.split (proved_key own.proved) own.reason good.reason,
        reason_key road cost (box_program road box) own.split (proved_key own.proved) own.reason good.reason,
        subst (λ (b : BoxRange). IsGoodNode road cost one (first_part b own.split)) good.range mine.first,
        subst (λ (b : BoxRange). IsGoodNode road cost two (second_part b own.split)) good.range mine.second,
      )
  good_parted (grown_fork split note key first second) box at leaf good e parts =
      let P : Option Waiting → Grown → Type 0 = λ found new. found ≡ Some leaf → IsGoodNode road cost new box in
      both_tests P (nat_lt at (waiting_count first)) (waiting_at first at) (waiting_at second (at - waiting_count first))
      (grown_fork split note key (parted_at first at one two) second) (grown_fork split note key first (parted_at second (at - waiting_count first) one two))
      (λ t f. (good.0, good.1, good.2, good_parted first (first_part box split) at leaf good.3 f parts, good.4))
      (λ t f. (good.0, good.1, good.2, good.3, good_parted second (second_part box split) (at - waiting_count first) leaf good.4 f parts))
      e

  module _ (leaf_one : IsGrownLeaf one) (leaf_two : IsGrownLeaf two) where
    pub keys_parted : (grown : Grown) (at : ℕ) (leaf : Waiting) → waiting_at grown at ≡ Some leaf
        → IsSplitOnce (proved_key leaf.proved) (keys_of grown) (keys_of (parted_at grown at one two))
    keys_parted (dead_leaf mults) at leaf e = cc
    keys_parted (whole_leaf proved) at leaf e = cc
    keys_parted (stopped_leaf proved note) at leaf e = cc
    keys_parted (waiting_leaf own) at leaf e =
        let same : own ≡ leaf = cc in
        (ap (λ (l : Waiting). proved_key l.proved) same, ap (λ (l : Waiting). proved_key l.proved) same, leaf_keys one leaf_one, leaf_keys two leaf_two)
    keys_parted (grown_fork split note key first second) at leaf e =
        let P : Option Waiting → Grown → Type 0 = λ found new. found ≡ Some leaf → IsSplitOnce (proved_key leaf.proved) (parted key (keys_of first) (keys_of second)) (keys_of new) in
        both_tests P (nat_lt at (waiting_count first)) (waiting_at first at) (waiting_at second (at - waiting_count first))
        (grown_fork split note key (parted_at first at one two) second) (grown_fork split note key first (parted_at second (at - waiting_count first) one two))
        (λ t f. (refl, inl (keys_parted first at leaf f, refl)))
        (λ t f. (refl, inr (refl, keys_parted second (at - waiting_count first) leaf f)))
        e

    pub total_parted : (grown : Grown) (at : ℕ) (leaf : Waiting) → waiting_at grown at ≡ Some leaf
        → node_total (parted_at grown at one two) ≡ node_total grown + 2
    total_parted (dead_leaf mults) at leaf e = cc
    total_parted (whole_leaf proved) at leaf e = cc
    total_parted (stopped_leaf proved note) at leaf e = cc
    total_parted (waiting_leaf own) at leaf e = let a = leaf_total one leaf_one in let b = leaf_total two leaf_two in omega arith
    total_parted (grown_fork split note key first second) at leaf e =
        let P : Option Waiting → Grown → Type 0 = λ found new. found ≡ Some leaf → node_total new ≡ node_total (grown_fork split note key first second) + 2 in
        both_tests P (nat_lt at (waiting_count first)) (waiting_at first at) (waiting_at second (at - waiting_count first))
        (grown_fork split note key (parted_at first at one two) second) (grown_fork split note key first (parted_at second (at - waiting_count first) one two))
        (λ t f. let more = total_parted first at leaf f in omega arith)
        (λ t f. let more = total_parted second (at - waiting_count first) leaf f in omega arith)
        e

-- the waiting leaves and their keys stand in one order

pub open_count : (grown : Grown) → length (open_keys (keys_of grown)) ≡ waiting_count grown
open_count (dead_leaf mults) = refl
open_count (whole_leaf proved) = refl
open_count (stopped_leaf proved note) = refl
open_count (waiting_leaf leaf) = refl
open_count (grown_fork split note key first second) =
    length-append (open_keys (keys_of first)) (open_keys (keys_of second)) ∙ (let a = open_count first in let b = open_count second in omega arith)

-- the key of a number is at most each open leaf's where it is at most each of the list
each_open : (key : ℤ × ℤ) (tree : KeyTree) → ((k : ℕ) → k < length (open_keys tree) → IsAtMost key (key_at (open_keys tree) k)) → IsAtMostOpen key tree
each_open key ended h = tt
each_open key (open_leaf own) h = h 0 (omega arith)
each_open key (parted own first second) h =
    let both = length-append (open_keys first) (open_keys second) in (
      each_open key first (λ k l. subst (IsAtMost key) (get_or_append_left (open_keys first) (open_keys second) (pos 0, pos 0) k l) (h k (omega arith))),
      each_open key second (λ k l. subst (IsAtMost key) (get_or-append-add (open_keys first) (open_keys second) k (pos 0, pos 0)) (h (length (open_keys first) + k) (omega arith))),
    )

pub least_open : (tree : KeyTree) (place : ℕ) → IsFirstLeast (open_keys tree) place → IsAtMostOpen (key_at (open_keys tree) place) tree
least_open tree place h = each_open (key_at (open_keys tree) place) tree h.least

-- a number below the count is that of a waiting leaf, and its key stands at that number
pub record IsWaitingAt (grown : Grown) (at : ℕ) : Type 0 where
  pub leaf : Waiting
  pub found : waiting_at grown at ≡ Some leaf
  pub key_is : key_at (open_keys (keys_of grown)) at ≡ proved_key leaf.proved

pub waiting_found : (grown : Grown) (at : ℕ) → at < waiting_count grown → IsWaitingAt grown at
waiting_found (dead_leaf mults) at h = absurd (omega arith)
waiting_found (whole_leaf proved) at h = absurd (omega arith)
waiting_found (stopped_leaf proved note) at h = absurd (omega arith)
waiting_found (waiting_leaf leaf) at h =
    let first : at ≡ 0 = omega arith in
    record { leaf = leaf; found = refl; key_is = ap (λ (k : ℕ). key_at (proved_key leaf.proved ∷ []) k) first }
waiting_found (grown_fork split note key first second) at h =
    ⊎_elim
    (λ (t : at < waiting_count first).
    let w = waiting_found first at t in
    record {
      leaf = w.leaf;
      found = ap (λ b. cond b (waiting_at first at) (waiting_at second (at - waiting_count first))) (test_of_less at (waiting_count first) t) ∙ w.found;
      key_is = get_or_append_left (open_keys (keys_of first)) (open_keys (keys_of second)) (pos 0, pos 0) at (let c = open_count first in omega arith) ∙ w.key_is;
    })
    (λ (t : waiting_count first ≤ at).
    let w = waiting_found second (at - waiting_count first) (omega arith) in
    let c = open_count first in
    let place : at ≡ length (open_keys (keys_of first)) + (at - waiting_count first) = omega arith in
    record {
      leaf = w.leaf;
      found = ap (λ b. cond b (waiting_at first at) (waiting_at second (at - waiting_count first))) (test_of_more at (waiting_count first) t) ∙ w.found;
      key_is = ap (λ (k : ℕ). key_at (open_keys (keys_of first) ++ open_keys (keys_of second)) k) place
          ∙ get_or-append-add (open_keys (keys_of first)) (open_keys (keys_of second)) (at - waiting_count first) (pos 0, pos 0)
          ∙ w.key_is;
    })
    (cases_lt at (waiting_count first))

-- splitting the waiting leaf of the first least key keeps the order of the keys
pub ordered_parted : (road : Road) (cost : Option Fraction) (one two grown : Grown) (at : ℕ) (leaf : Waiting) → IsGrownLeaf one → IsGrownLeaf two
    → waiting_at grown at ≡ Some leaf → key_at (open_keys (keys_of grown)) at ≡ proved_key leaf.proved
    → IsFirstLeast (open_keys (keys_of grown)) at → IsOrderedTree (keys_of grown) → IsOrderedTree (keys_of (parted_at grown at one two))
ordered_parted road cost one two grown at leaf leaf_one leaf_two e key_is least ordered =
    ordered_split (proved_key leaf.proved) (keys_of grown) (keys_of (parted_at grown at one two))
    (keys_parted road cost one two leaf_one leaf_two grown at leaf e)
    (subst (λ (k : ℤ × ℤ). IsAtMostOpen k (keys_of grown)) key_is (least_open (keys_of grown) at least))
    ordered
