-- The steps of a search.
use Rattle.std.proofs.Common.{◌≡◌, ℕ, ◌+◌, ◌-◌, ◌≤◌, ◌<◌, true, nat_lt, Option, Some, None, [], refl, sym, ap, subst, arith, inl, inr, ◌∙◌}
use Rattle.std.specs.Prelude.{ℤ, pos, ◌*ℤ◌, ◌≤ℤ◌, int_le}
use Rattle.numbers.specs.Fractions.{Fraction}
use Rattle.road_types.specs.Faults.{road_fault}
use Rattle.road_types.proofs.AcceptedRoad.{IsAccepted-from_fault}
use Rattle.road_types.specs.declared.road.Road.{Road}
use Rattle.milp_builder.specs.Boxes.{IsBoxOf, root_box}
use Rattle.milp_builder.specs.Parts.{IsSplitOf, first_part, second_part, AreParts, Covers}
use Rattle.milp_builder.specs.declared.boxes.BoxRange.{BoxRange}
use Rattle.milp_builder.specs.declared.boxes.Split.{Split}
use Rattle.milp_builder.proofs.Cover.{found_parts_cover}
use Rattle.milp_builder.proofs.RootBox.{root_box_fits}
use Rattle.branch_bound.specs.inside.Better.{IsBetter}
use Rattle.branch_bound.specs.inside.Grown.{Grown, dead_leaf, whole_leaf, stopped_leaf, waiting_leaf, grown_fork, grown_of, IsGoodNode, IsWaiting, IsGrownLeaf, keys_of, node_total, waiting_count, waiting_at, parted_at, proved_key, AreKeys, AllReach, IsProvedOfBox, IsCostKey}
use Rattle.branch_bound.specs.inside.Searches.{best_cost, IsBest, IsSolvedBox, AreSolved, IsSearch, IsFinishedSearch, IsNext, IsPartsOf}
use Rattle.branch_bound.specs.declared.work.Waiting.{Waiting}
use Rattle.branch_bound.specs.declared.best.Best.{Best}
use Rattle.branch_bound.specs.declared.growing.Search.{Search}
use Rattle.branch_bound.specs.declared.growing.Finished.{Finished}
use Rattle.branch_bound.specs.declared.work.Work.{Work}
use Rattle.branch_bound.specs.declared.work.Proved.{Proved}
use Rattle.branch_bound.specs.inside.Solved.{Solved, SolvedParts}
use Rattle.branch_bound.proofs.BetterLemmas.{good_along, better_along}
use Rattle.branch_bound.proofs.GrowingLemmas.{at_either, good_parted, ordered_parted, total_parted, waiting_found, open_count}
use Rattle.best_first.specs.inside.Covers.{IsOrderedTree, IsAtMostOpen, open_keys}
use Rattle.best_first.specs.Keys.{IsKey, IsFirstLeast}
use Rattle.std.specs.List.{All}
use Rattle.std.proofs.lemmas.List.Elements.{All-nil, All-cons, All-append}
use Rattle.best_first.proofs.KeyLemmas.{at_most_along}
use Rattle.cert_tree.specs.Soundness.{IsAtLeastBound, HasPositiveDen}
use Rattle.std.proofs.lemmas.Int.{ints}

some_same : (x y : Waiting) → Some x ≡ Some y → x ≡ y
some_same x y e = cc

test_from_le : (a b : ℤ) → a ≤ℤ b → int_le a b ≡ true
test_from_le a b e = grind (arith, ints)

pub both_solved : (road : Road) (best : Option Best) (first second : BoxRange) (one two : Solved) (solved : SolvedParts)
    → IsSolvedBox road best first one → IsSolvedBox road one.best second two
    → solved.first ≡ one.leaf → solved.second ≡ two.leaf → solved.best ≡ two.best → AreSolved road best first second solved
both_solved road best first second one two solved h k e f g =
    let P : Option Best → Type 0 = λ b. IsBest road b × IsBetter (best_cost b) (best_cost best) × IsGoodNode road (best_cost b) (grown_of one.leaf) first × IsGoodNode road (best_cost b) (grown_of two.leaf) second in
    let all : P solved.best = subst P (sym g) (
      k.best_is,
      better_along (best_cost two.best) (best_cost one.best) (best_cost best) k.better h.better,
      good_along road (best_cost two.best) (best_cost one.best) (grown_of one.leaf) first k.better h.good,
      k.good,
    ) in
    record {
      best_is = all.0;
      better = all.1;
      first_leaf = subst (λ w. IsGrownLeaf (grown_of w)) (sym e) h.is_leaf;
      second_leaf = subst (λ w. IsGrownLeaf (grown_of w)) (sym f) k.is_leaf;
      first_good = subst (λ w. IsGoodNode road (best_cost solved.best) (grown_of w) first) (sym e) all.2;
      second_good = subst (λ w. IsGoodNode road (best_cost solved.best) (grown_of w) second) (sym f) all.3;
    }

-- a waiting leaf of a good tree is as it says, on a box that fits
pub record IsWaitingBox (road : Road) (cost : Option Fraction) (leaf : Waiting) : Type 0 where
  pub waiting : IsWaiting road cost leaf.range leaf
  pub fits : IsBoxOf road leaf.range

pub waiting_in : (road : Road) (cost : Option Fraction) (grown : Grown) (box : BoxRange) (at : ℕ) (leaf : Waiting) → IsBoxOf road box
    → IsGoodNode road cost grown box → waiting_at grown at ≡ Some leaf → IsWaitingBox road cost leaf
waiting_in road cost (dead_leaf mults) box at leaf fits good e = cc
waiting_in road cost (whole_leaf proved) box at leaf fits good e = cc
waiting_in road cost (stopped_leaf proved note) box at leaf fits good e = cc
waiting_in road cost (waiting_leaf own) box at leaf fits good e =
    let same : own ≡ leaf = cc in
    let here : IsWaitingBox road cost own = record {
      waiting = subst (λ (b : BoxRange). IsWaiting road cost b own) (sym good.range) good;
      fits = subst (λ (b : BoxRange). IsBoxOf road b) (sym good.range) fits;
    } in
    subst (λ (l : Waiting). IsWaitingBox road cost l) same here
waiting_in road cost (grown_fork split note key first second) box at leaf fits good e =
    let cover = found_parts_cover road box fits split (Some (first_part box split, second_part box split)) (good.0, refl) in
    at_either (λ found. found ≡ Some leaf → IsWaitingBox road cost leaf) (nat_lt at (waiting_count first)) (waiting_at first at) (waiting_at second (at - waiting_count first))
    (λ f. waiting_in road cost first (first_part box split) at leaf cover.first_fits good.3 f)
    (λ f. waiting_in road cost second (second_part box split) (at - waiting_count first) leaf cover.second_fits good.4 f)
    e

pub waiting_box : (road : Road) (search : Search) (at : ℕ) (leaf : Waiting) → road_fault road ≡ None → IsSearch road search
    → waiting_at (grown_of search.work) at ≡ Some leaf → IsWaitingBox road (best_cost search.best) leaf
waiting_box road search at leaf accepted h e =
    waiting_in road (best_cost search.best) (grown_of search.work) (root_box road) at leaf
    (root_box_fits road (IsAccepted-from_fault road accepted).well_formed) h.good e

pub parts_fit : (road : Road) (search : Search) (at : ℕ) (leaf : Waiting) (pair : BoxRange × BoxRange) → road_fault road ≡ None → IsSearch road search
    → waiting_at (grown_of search.work) at ≡ Some leaf → AreParts road leaf.range leaf.split (Some pair) → Covers road leaf.range pair.0 pair.1
    → IsPartsOf road (grown_of search.work) at pair.0 pair.1
parts_fit road search at leaf pair accepted h e parts cover = record {
  leaf = leaf;
  found = e;
  first_is = ap (λ (p : BoxRange × BoxRange). p.0) parts.1;
  second_is = ap (λ (p : BoxRange × BoxRange). p.1) parts.1;
  first_fits = cover.first_fits;
  second_fits = cover.second_fits;
}

-- the waiting leaf that is split next gives way to the leaves of its parts
pub record IsExpanded (road : Road) (search : Search) (at : ℕ) (solved : SolvedParts) (after : Search) : Type 0 where
  pub best_is : after.best ≡ solved.best
  pub work_is : grown_of after.work ≡ parted_at (grown_of search.work) at (grown_of solved.first) (grown_of solved.second)

module _ (road : Road) (search after : Search) (at : ℕ) (first second : BoxRange) (solved : SolvedParts)
    (h : IsSearch road search) (n : IsNext (grown_of search.work) at) (p : IsPartsOf road (grown_of search.work) at first second)
    (s : AreSolved road search.best first second solved) (e : IsExpanded road search at solved after) where
  abbrev old : Grown
  old = grown_of search.work

  abbrev cost : Option Fraction
  cost = best_cost solved.best

  good_after : IsGoodNode road cost (parted_at old at (grown_of solved.first) (grown_of solved.second)) (root_box road)
  good_after =
      good_parted road cost (grown_of solved.first) (grown_of solved.second) old (root_box road) at p.leaf
      (good_along road cost (best_cost search.best) old (root_box road) s.better h.good) p.found
      (record {
        first = subst (λ (b : BoxRange). IsGoodNode road cost (grown_of solved.first) b) p.first_is s.first_good;
        second = subst (λ (b : BoxRange). IsGoodNode road cost (grown_of solved.second) b) p.second_is s.second_good;
      })

  ordered_after : IsOrderedTree (keys_of (parted_at old at (grown_of solved.first) (grown_of solved.second)))
  ordered_after =
      let w = waiting_found old at n.within in
      let same : w.leaf ≡ p.leaf = some_same w.leaf p.leaf (sym w.found ∙ p.found) in
      ordered_parted road cost (grown_of solved.first) (grown_of solved.second) old at p.leaf s.first_leaf s.second_leaf p.found
      (w.key_is ∙ ap (λ (l : Waiting). proved_key l.proved) same) n.least h.ordered

  pub search_after : IsSearch road after
  search_after = record {
    best_is = subst (λ (b : Option Best). IsBest road b) (sym e.best_is) s.best_is;
    good = subst (λ (b : Option Best). IsGoodNode road (best_cost b) (grown_of after.work) (root_box road)) (sym e.best_is)
        (subst (λ (g : Grown). IsGoodNode road cost g (root_box road)) (sym e.work_is) good_after);
    ordered = subst (λ (g : Grown). IsOrderedTree (keys_of g)) (sym e.work_is) ordered_after;
  }

  pub total_after : node_total (grown_of after.work) ≡ node_total old + 2
  total_after =
      ap node_total e.work_is ∙ total_parted road cost (grown_of solved.first) (grown_of solved.second) s.first_leaf s.second_leaf old at p.leaf p.found

-- every key is at least the cost where the least of them is
pub all_reach : (cost : Option Fraction) (key : ℤ × ℤ) (grown : Grown) → pos 1 ≤ℤ key.1 → HasPositiveDen cost → AreKeys grown
    → IsAtLeastBound key.0 key.1 cost → IsAtMostOpen key (keys_of grown) → AllReach cost grown
all_reach cost key (dead_leaf mults) one den keys h least = tt
all_reach cost key (whole_leaf proved) one den keys h least = tt
all_reach cost key (stopped_leaf proved note) one den keys h least = tt
all_reach None key (waiting_leaf leaf) one den keys h least = absurd h
all_reach (Some cost) key (waiting_leaf leaf) one den keys h least =
    test_from_le (cost.num *ℤ leaf.proved.scale) (leaf.proved.value *ℤ cost.den)
    (at_most_along (cost.num, cost.den) key (proved_key leaf.proved) den one keys.scale.from_one h least)
all_reach cost key (grown_fork split note own first second) one den keys h least =
    (all_reach cost key first one den keys.0 h least.0, all_reach cost key second one den keys.1 h least.1)

-- the keys of waiting leaves are keys
pub keys_all : (grown : Grown) → AreKeys grown → All IsKey (open_keys (keys_of grown))
keys_all (dead_leaf mults) h = All-nil IsKey
keys_all (whole_leaf proved) h = All-nil IsKey
keys_all (stopped_leaf proved note) h = All-nil IsKey
keys_all (waiting_leaf leaf) h = All-cons IsKey (proved_key leaf.proved) [] h (All-nil IsKey)
keys_all (grown_fork split note key first second) h =
    All-append IsKey (open_keys (keys_of first)) (open_keys (keys_of second)) (keys_all first h.0) (keys_all second h.1)

-- the first least key is that of the leaf that is next
pub next_is : (grown : Grown) (at : ℕ) → IsFirstLeast (open_keys (keys_of grown)) at → IsNext grown at
next_is grown at h = record { within = let w = h.within in let c = open_count grown in omega arith; least = h }

-- where no leaf waits, each waiting leaf is closed
pub none_waits : (cost : Option Fraction) (grown : Grown) → waiting_count grown ≡ 0 → AllReach cost grown
none_waits cost (dead_leaf mults) h = tt
none_waits cost (whole_leaf proved) h = tt
none_waits cost (stopped_leaf proved note) h = tt
none_waits cost (waiting_leaf leaf) h = absurd (omega arith)
none_waits cost (grown_fork split note key first second) h = (none_waits cost first (omega arith), none_waits cost second (omega arith))

-- a good tree has keys
key_of_proved : (road : Road) (box : BoxRange) (proved : Proved) → IsProvedOfBox road box proved → IsKey (proved_key proved)
key_of_proved road box proved h = record { value = h.value_within; scale = h.scale_within }

pub keys_of_good : (road : Road) (cost : Option Fraction) (grown : Grown) (box : BoxRange) → IsGoodNode road cost grown box → AreKeys grown
keys_of_good road cost (dead_leaf mults) box good = tt
keys_of_good road cost (whole_leaf proved) box good = key_of_proved road box proved good.0
keys_of_good road cost (stopped_leaf proved note) box good = key_of_proved road box proved good.0
keys_of_good road cost (waiting_leaf leaf) box good = key_of_proved road box leaf.proved good.own_bound
keys_of_good road cost (grown_fork split note key first second) box good =
    (keys_of_good road cost first (first_part box split) good.3, keys_of_good road cost second (second_part box split) good.4)

pub search_keys : (road : Road) (search : Search) → IsSearch road search → AreKeys (grown_of search.work)
search_keys road search h = keys_of_good road (best_cost search.best) (grown_of search.work) (root_box road) h.good

-- the cost of the best plan is that of a key
pub cost_key : (road : Road) (best : Option Best) → IsBest road best → IsCostKey (best_cost best)
cost_key road None h = tt
cost_key road (Some best) h = h.cost_key

-- no more leaves wait than there are nodes
pub few_waiting : (grown : Grown) → waiting_count grown ≤ node_total grown
few_waiting (dead_leaf mults) = omega arith
few_waiting (whole_leaf proved) = omega arith
few_waiting (stopped_leaf proved note) = omega arith
few_waiting (waiting_leaf leaf) = omega arith
few_waiting (grown_fork split note key first second) = omega (arith, few_waiting first, few_waiting second)

-- a search begins with the leaf of the box of all plans
leaf_total : (leaf : Grown) → IsGrownLeaf leaf → node_total leaf ≡ 1
leaf_total (dead_leaf mults) h = refl
leaf_total (whole_leaf proved) h = refl
leaf_total (stopped_leaf proved note) h = refl
leaf_total (waiting_leaf leaf) h = refl
leaf_total (grown_fork split note key first second) h = absurd h

leaf_ordered : (leaf : Grown) → IsGrownLeaf leaf → IsOrderedTree (keys_of leaf)
leaf_ordered (dead_leaf mults) h = tt
leaf_ordered (whole_leaf proved) h = tt
leaf_ordered (stopped_leaf proved note) h = tt
leaf_ordered (waiting_leaf leaf) h = tt
leaf_ordered (grown_fork split note key first second) h = absurd h

pub begun : (road : Road) (old : Option Best) (box : BoxRange) (solved : Solved) (search : Search) → box ≡ root_box road → IsSolvedBox road old box solved
    → search.work ≡ solved.leaf → search.best ≡ solved.best → IsSearch road search
begun road old box solved search b h w e =
    let good = subst (λ (r : BoxRange). IsGoodNode road (best_cost solved.best) (grown_of solved.leaf) r) b h.good in
    let here = subst (λ (x : Work). IsGoodNode road (best_cost solved.best) (grown_of x) (root_box road)) (sym w) good in
    record {
      best_is = subst (λ (x : Option Best). IsBest road x) (sym e) h.best_is;
      good = subst (λ (x : Option Best). IsGoodNode road (best_cost x) (grown_of search.work) (root_box road)) (sym e) here;
      ordered = subst (λ (x : Work). IsOrderedTree (keys_of (grown_of x))) (sym w) (leaf_ordered (grown_of solved.leaf) h.is_leaf);
    }

pub begun_total : (road : Road) (old : Option Best) (box : BoxRange) (solved : Solved) (search : Search) → IsSolvedBox road old box solved
    → search.work ≡ solved.leaf → node_total (grown_of search.work) ≡ 1
begun_total road old box solved search h w = ap (λ (x : Work). node_total (grown_of x)) w ∙ leaf_total (grown_of solved.leaf) h.is_leaf

-- a search is finished where the nodes for another split are spent, or each waiting leaf's bound reaches the cost
pub finished_budget : (road : Road) (finished : Finished) (most : ℕ) → IsSearch road finished.search → node_total (grown_of finished.search.work) ≡ finished.count
    → pos most ≡ road.nodes → finished.count ≤ most → most < finished.count + 2 → IsFinishedSearch road finished
finished_budget road finished most h n e l b = record { search = h; counted = n; within = omega (arith, ints); ended = inl (omega (arith, ints)) }

pub finished_reach : (road : Road) (finished : Finished) (most : ℕ) → IsSearch road finished.search → node_total (grown_of finished.search.work) ≡ finished.count
    → pos most ≡ road.nodes → finished.count ≤ most → AllReach (best_cost finished.search.best) (grown_of finished.search.work) → IsFinishedSearch road finished
finished_reach road finished most h n e l r = record { search = h; counted = n; within = omega (arith, ints); ended = inr r }

-- the parts of a waiting leaf's box can be made
pub no_parts : (road : Road) (box : BoxRange) (split : Split) (found : Option (BoxRange × BoxRange)) → found ≡ None → AreParts road box split found → IsSplitOf road box split → ⊥
no_parts road box split found e parts splits = (subst (λ (o : Option (BoxRange × BoxRange)). AreParts road box split o) e parts) splits

pub search_cost : (road : Road) (search : Search) → IsSearch road search → IsCostKey (best_cost search.best)
search_cost road search h = cost_key road search.best h.best_is
