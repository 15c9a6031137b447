-- At the end each open leaf is closed where its bound reaches the cost, and else left open with its note: every note is shown, the keys are
-- as before but for the leaves that were closed, and no node comes or goes.
use Rattle.std.proofs.Common.{◌≡◌, ℕ, ◌+◌, Bool, true, false, cond, Option, Some, None, refl, subst, arith, inl, inr, ⊎_elim}
use Rattle.std.specs.Prelude.{ℤ, pos, ◌*ℤ◌, ◌≤ℤ◌, ◌<ℤ◌, int_le}
use Rattle.std.proofs.lemmas.Int.{ints}
use Rattle.numbers.specs.Fractions.{Fraction}
use Rattle.road_types.specs.declared.road.Road.{Road}
use Rattle.milp_builder.specs.BoxPrograms.{box_program}
use Rattle.milp_builder.specs.Parts.{first_part, second_part}
use Rattle.milp_builder.specs.declared.boxes.BoxRange.{BoxRange}
use Rattle.milp_builder.specs.declared.boxes.Split.{Split}
use Rattle.cert_tree.specs.Trees.{node_count}
use Rattle.cert_tree.specs.Soundness.{box_value, IsAtLeastBound}
use Rattle.best_first.specs.Keys.{IsAtMost}
use Rattle.best_first.specs.KeyTrees.{KeyTree, ended, open_leaf, parted}
use Rattle.best_first.specs.inside.Covers.{IsEndedInPart}
use Rattle.best_first.proofs.KeyLemmas.{at_most_itself}
use Rattle.branch_bound.specs.Noted.{Noted, low_with, tree_of, IsShownStop, AreShown, HaveKeys}
use Rattle.branch_bound.specs.inside.Grown.{Grown, dead_leaf, whole_leaf, stopped_leaf, waiting_leaf, grown_fork, IsGoodNode, IsProvedOfBox, IsReason, proved_key, keys_of, node_total, left_note, left_cause, reaches, cause_of, noted_of, IsFinished}
use Rattle.branch_bound.specs.declared.work.Proved.{Proved}
use Rattle.branch_bound.specs.declared.work.Reason.{Reason}
use Rattle.branch_bound.specs.declared.work.Reason.TheVariants.{Asked, Stop}
use Rattle.branch_bound.specs.declared.notes.NodeNote.{NodeNote}
use Rattle.branch_bound.specs.declared.notes.NodeNote.TheVariants.{Fractional, Closed, Dead, Pivots, Wide, Limit, Nodes}

le_from_test : (a b : ℤ) → int_le a b ≡ true → a ≤ℤ b
le_from_test a b e = grind (arith, ints)

reached : (cost : Option Fraction) (proved : Proved) → reaches cost proved ≡ true → IsAtLeastBound proved.value proved.scale cost
reached None proved h = cc
reached (Some cost) proved h = le_from_test (cost.num *ℤ proved.scale) (proved.value *ℤ cost.den) h

-- both sides of a test
at_test : (P : Noted → Type 0) (b : Bool) (x y : Noted) → (b ≡ true → P x) → (b ≡ false → P y) → P (cond b x y)
at_test P true x y h k = h refl
at_test P false x y h k = k refl

module _ (road : Road) (cost : Option Fraction) (count : ℕ) where
  -- a closed leaf
  closed_shown : (box : BoxRange) (proved : Proved) → IsProvedOfBox road box proved → IsAtLeastBound proved.value proved.scale cost
      → AreShown road cost count (low_with proved.scale proved.mults None Closed) box
  closed_shown box proved p h = (refl, subst (λ (v : ℤ). IsAtLeastBound v proved.scale cost) p.value_is h)

  stop_shown : (box : BoxRange) (proved : Proved) (note : NodeNote) → IsProvedOfBox road box proved → IsShownStop road cost (box_program road box) note (proved_key proved)
      → AreShown road cost count (low_with proved.scale proved.mults (Some (cause_of note)) note) box
  stop_shown box proved (Pivots trail) p h = (refl, subst (λ (v : ℤ). IsShownStop road cost (box_program road box) (Pivots trail) (v, proved.scale)) p.value_is h)
  stop_shown box proved (Wide trail op) p h = (refl, subst (λ (v : ℤ). IsShownStop road cost (box_program road box) (Wide trail op) (v, proved.scale)) p.value_is h)
  stop_shown box proved (Limit trail number) p h = (refl, subst (λ (v : ℤ). IsShownStop road cost (box_program road box) (Limit trail number) (v, proved.scale)) p.value_is h)
  stop_shown box proved Closed p h = absurd h.1.0
  stop_shown box proved Dead p h = absurd h.1.0
  stop_shown box proved (Fractional trail den point scale mults) p h = absurd h.1.0
  stop_shown box proved (Nodes trail den point scale mults) p h = absurd h.1.0

  open_shown : (box : BoxRange) (proved : Proved) (split : Split) (reason : Reason) → IsProvedOfBox road box proved
      → IsReason road cost (box_program road box) split (proved_key proved) reason → (road.nodes <ℤ pos (count + 2))
      → AreShown road cost count (low_with proved.scale proved.mults (Some (left_cause reason)) (left_note reason)) box
  open_shown box proved split (Asked o) p h spent =
      let own : IsAtMost (proved_key proved) (box_value road box proved.scale proved.mults, proved.scale) =
      subst (λ (v : ℤ). IsAtMost (proved_key proved) (v, proved.scale)) p.value_is (at_most_itself (proved_key proved)) in (
        refl,
        h.optimum,
        (split, h.asks),
        spent,
        (proved_key proved, (h.narrow_key, own)),
      )
  open_shown box proved split (Stop note) p h spent =
      stop_shown box proved note p (h.tableau, (h.stop, (proved_key proved, (h.narrow_key, at_most_itself (proved_key proved)))))

  pub shown_at_end : (grown : Grown) (box : BoxRange) → IsGoodNode road cost grown box → IsFinished road cost count grown → AreShown road cost count (noted_of cost grown) box
  shown_at_end (dead_leaf mults) box good done = refl
  shown_at_end (whole_leaf proved) box good done = closed_shown box proved good.0 good.1
  shown_at_end (stopped_leaf proved note) box good done =
      at_test (λ n. AreShown road cost count n box) (reaches cost proved)
      (low_with proved.scale proved.mults None Closed) (low_with proved.scale proved.mults (Some (cause_of note)) note)
      (λ t. closed_shown box proved good.0 (reached cost proved t))
      (λ t. stop_shown box proved note good.0 good.1)
  shown_at_end (waiting_leaf leaf) box good done =
      at_test (λ n. AreShown road cost count n box) (reaches cost leaf.proved)
      (low_with leaf.proved.scale leaf.proved.mults None Closed) (low_with leaf.proved.scale leaf.proved.mults (Some (left_cause leaf.reason)) (left_note leaf.reason))
      (λ t. closed_shown box leaf.proved good.own_bound (reached cost leaf.proved t))
      (λ t. open_shown box leaf.proved leaf.split leaf.reason good.own_bound good.reason (⊎_elim (λ spent. spent) (λ all. absurd (let a = all in cc)) done))
  shown_at_end (grown_fork split note key first second) box good done = (
    good.1,
    shown_at_end first (first_part box split) good.3 (⊎_elim (λ spent. inl spent) (λ all. inr all.0) done),
    shown_at_end second (second_part box split) good.4 (⊎_elim (λ spent. inl spent) (λ all. inr all.1) done),
  )

-- the number of nodes stays
pub count_at_end : (cost : Option Fraction) (grown : Grown) → node_count (tree_of (noted_of cost grown)) ≡ node_total grown
count_at_end cost (dead_leaf mults) = refl
count_at_end cost (whole_leaf proved) = refl
count_at_end cost (stopped_leaf proved note) =
    at_test (λ n. node_count (tree_of n) ≡ 1) (reaches cost proved)
    (low_with proved.scale proved.mults None Closed) (low_with proved.scale proved.mults (Some (cause_of note)) note) (λ t. refl) (λ t. refl)
count_at_end cost (waiting_leaf leaf) =
    at_test (λ n. node_count (tree_of n) ≡ 1) (reaches cost leaf.proved)
    (low_with leaf.proved.scale leaf.proved.mults None Closed) (low_with leaf.proved.scale leaf.proved.mults (Some (left_cause leaf.reason)) (left_note leaf.reason))
    (λ t. refl) (λ t. refl)
count_at_end cost (grown_fork split note key first second) =
    let a = count_at_end cost first in let b = count_at_end cost second in omega arith

-- the key of a leaf that is left open, where it is left open for want of nodes
abbrev pub left_key : Reason → ℤ × ℤ → KeyTree
left_key (Asked o) key = open_leaf key
left_key (Stop note) key = ended

-- the keys at the end: those of the leaves that were closed are gone, and those of stops
abbrev pub end_keys : Option Fraction → Grown → KeyTree
end_keys cost (waiting_leaf leaf) = cond (reaches cost leaf.proved) ended (left_key leaf.reason (proved_key leaf.proved))
end_keys cost (grown_fork split note key first second) = parted key (end_keys cost first) (end_keys cost second)
end_keys cost leaf = ended

key_ended : (b : Bool) (reason : Reason) (key : ℤ × ℤ) → IsEndedInPart (open_leaf key) (cond b ended (left_key reason key))
key_ended true reason key = tt
key_ended false (Asked o) key = refl
key_ended false (Stop note) key = tt

pub keys_ended : (cost : Option Fraction) (grown : Grown) → IsEndedInPart (keys_of grown) (end_keys cost grown)
keys_ended cost (dead_leaf mults) = tt
keys_ended cost (whole_leaf proved) = tt
keys_ended cost (stopped_leaf proved note) = tt
keys_ended cost (waiting_leaf leaf) = key_ended (reaches cost leaf.proved) leaf.reason (proved_key leaf.proved)
keys_ended cost (grown_fork split note key first second) = (refl, keys_ended cost first, keys_ended cost second)

-- two tests of one truth
both_tests : (P : Noted → KeyTree → Type 0) (b : Bool) (x y : Noted) (u v : KeyTree) → P x u → P y v → P (cond b x y) (cond b u v)
both_tests P true x y u v h k = h
both_tests P false x y u v h k = k

stop_has_none : (road : Road) (box : BoxRange) (proved : Proved) (note : NodeNote) → HaveKeys road (low_with proved.scale proved.mults (Some (cause_of note)) note) box ended
stop_has_none road box proved (Pivots trail) = refl
stop_has_none road box proved (Wide trail op) = refl
stop_has_none road box proved (Limit trail number) = refl
stop_has_none road box proved Closed = refl
stop_has_none road box proved Dead = refl
stop_has_none road box proved (Fractional trail den point scale mults) = refl
stop_has_none road box proved (Nodes trail den point scale mults) = refl

left_has : (road : Road) (cost : Option Fraction) (box : BoxRange) (proved : Proved) (split : Split) (reason : Reason)
    → IsReason road cost (box_program road box) split (proved_key proved) reason
    → HaveKeys road (low_with proved.scale proved.mults (Some (left_cause reason)) (left_note reason)) box (left_key reason (proved_key proved))
left_has road cost box proved split (Asked o) h = (proved_key proved, (h.narrow_key, refl))
left_has road cost box proved split (Stop note) h = stop_has_none road box proved note

pub keys_at_end : (road : Road) (cost : Option Fraction) (grown : Grown) (box : BoxRange) → IsGoodNode road cost grown box → HaveKeys road (noted_of cost grown) box (end_keys cost grown)
keys_at_end road cost (dead_leaf mults) box good = refl
keys_at_end road cost (whole_leaf proved) box good = refl
keys_at_end road cost (stopped_leaf proved note) box good =
    at_test (λ n. HaveKeys road n box ended) (reaches cost proved)
    (low_with proved.scale proved.mults None Closed) (low_with proved.scale proved.mults (Some (cause_of note)) note) (λ t. refl)
    (λ t. stop_has_none road box proved note)
keys_at_end road cost (waiting_leaf leaf) box good =
    both_tests (λ n keys. HaveKeys road n box keys) (reaches cost leaf.proved)
    (low_with leaf.proved.scale leaf.proved.mults None Closed) (low_with leaf.proved.scale leaf.proved.mults (Some (left_cause leaf.reason)) (left_note leaf.reason))
    ended (left_key leaf.reason (proved_key leaf.proved))
    refl (left_has road cost box leaf.proved leaf.split leaf.reason good.reason)
keys_at_end road cost (grown_fork split note key first second) box good =
    (good.2, keys_at_end road cost first (first_part box split) good.3, keys_at_end road cost second (second_part box split) good.4)
