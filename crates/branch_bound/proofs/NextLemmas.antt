-- Which waiting leaf is next, by the keys of the waiting leaves.
use Rattle.std.proofs.Common.{◌≡◌, ℕ, ◌+◌, true, MatchOption, Option, Some, None, List, length, length-append, sym, subst, arith}
use Rattle.std.specs.Prelude.{ℤ, pos, ◌*ℤ◌, ◌≤ℤ◌, int_le}
use Rattle.std.specs.List.{All}
use Rattle.std.proofs.lemmas.Int.{ints}
use Rattle.std.proofs.lemmas.List.{get_or_append_left, get_or-append-add}
use Rattle.std.proofs.lemmas.List.Elements.{All-get_or}
use Rattle.numbers.specs.Fractions.{Fraction}
use Rattle.cert_tree.specs.Soundness.{IsAtLeastBound}
use Rattle.best_first.specs.Keys.{IsKey, IsFirstLeast, key_at}
use Rattle.best_first.specs.inside.Covers.{open_keys}
use Rattle.best_first.proofs.KeyLemmas.{at_most_along}
use Rattle.branch_bound.specs.inside.Grown.{Grown, dead_leaf, whole_leaf, stopped_leaf, waiting_leaf, grown_fork, keys_of, IsCostKey, AreKeys, AllReach}
use Rattle.branch_bound.specs.inside.Searches.{DoReach, IsNextOrNone}
use Rattle.branch_bound.proofs.SearchLemmas.{next_is, keys_all}

pub none_reach : (cost : Option Fraction) (keys : List (ℤ × ℤ)) → length keys ≡ 0 → DoReach cost keys
none_reach cost keys e k l = absurd (omega arith)

pub least_reach : (cost : Option Fraction) (keys : List (ℤ × ℤ)) (at : ℕ) → All IsKey keys → IsCostKey cost → IsFirstLeast keys at
    → IsAtLeastBound (key_at keys at).0 (key_at keys at).1 cost → DoReach cost keys
least_reach None keys at all c least h k l = absurd h
least_reach (Some cost) keys at all c least h k l =
    at_most_along (cost.num, cost.den) (key_at keys at) (key_at keys k) c.scale.from_one
    (All-get_or IsKey keys at (pos 0, pos 0) least.within all).scale.from_one
    (All-get_or IsKey keys k (pos 0, pos 0) l all).scale.from_one h (least.least k l)

test_from_le : (a b : ℤ) → a ≤ℤ b → int_le a b ≡ true
test_from_le a b e = grind (arith, ints)

each_reach : (cost : Option Fraction) (grown : Grown) → DoReach cost (open_keys (keys_of grown)) → AllReach cost grown
each_reach cost (dead_leaf mults) h = tt
each_reach cost (whole_leaf proved) h = tt
each_reach cost (stopped_leaf proved note) h = tt
each_reach None (waiting_leaf leaf) h = absurd (h 0 (omega arith))
each_reach (Some cost) (waiting_leaf leaf) h = test_from_le (cost.num *ℤ leaf.proved.scale) (leaf.proved.value *ℤ cost.den) (h 0 (omega arith))
each_reach cost (grown_fork split note key first second) h =
    let one = open_keys (keys_of first) in
    let two = open_keys (keys_of second) in
    let both = length-append one two in
    let P : ℤ × ℤ → Type 0 = λ key. IsAtLeastBound key.0 key.1 cost in (
      each_reach cost first (λ k l. subst P (get_or_append_left one two (pos 0, pos 0) k l) (h k (omega arith))),
      each_reach cost second (λ k l. subst P (get_or-append-add one two k (pos 0, pos 0)) (h (length one + k) (omega arith))),
    )

pub next_or_none : (cost : Option Fraction) (grown : Grown) (keys : List (ℤ × ℤ)) (next : Option ℕ) → keys ≡ open_keys (keys_of grown)
    → MatchOption next (DoReach cost keys) (λ at. IsFirstLeast keys at) → IsNextOrNone cost grown next
next_or_none cost grown keys None e h = each_reach cost grown (subst (DoReach cost) e h)
next_or_none cost grown keys (Some at) e h = next_is grown at (subst (λ (ks : List (ℤ × ℤ)). IsFirstLeast ks at) e h)

pub open_all_of : (grown : Grown) (keys : List (ℤ × ℤ)) → keys ≡ open_keys (keys_of grown) → AreKeys grown → All IsKey keys
open_all_of grown keys e h = subst (λ (ks : List (ℤ × ℤ)). All IsKey ks) (sym e) (keys_all grown h)
