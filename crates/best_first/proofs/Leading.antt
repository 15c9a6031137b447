-- The first least of one more key.
use Rattle.std.proofs.Common.{◌≡◌, ◌⊎◌, ℕ, ◌+◌, ◌<◌, List, length, arith, sym, subst, ⊎_elim}
use Rattle.std.specs.Prelude.{ℤ, pos, ◌*ℤ◌, ◌≤ℤ◌}
use Rattle.std.specs.List.{All}
use Rattle.std.proofs.lemmas.Int.{ints}
use Rattle.std.proofs.lemmas.List.Elements.{All-get_or}
use Rattle.algebra.proofs.Order.{int_lt_or_le}
use Rattle.best_first.specs.Keys.{IsKey, IsLess, IsAtMost, key_at, IsFirstLeast}
use Rattle.best_first.specs.inside.Leading.{IsFirstLeastOf}
use Rattle.best_first.proofs.KeyLemmas.{at_most_itself, less_along}

module _ (keys : List (ℤ × ℤ)) (all : All IsKey keys) where
  scale_of : (place : ℕ) → place < length keys → pos 1 ≤ℤ (key_at keys place).1
  scale_of place within = (All-get_or IsKey keys place (pos 0, pos 0) within all).scale.from_one

  -- before one more place is before it or it
  before_or_at : (other place : ℕ) → other < place + 1 → (other < place) ⊎ (other ≡ place)
  before_or_at other place h = grind arith

  pub another_least : (least place : ℕ) → place < length keys → IsFirstLeastOf keys place least
      → IsLess (key_at keys place) (key_at keys least) → IsFirstLeastOf keys (place + 1) place
  another_least least place within h less =
      let below : (other : ℕ) → other < place → IsLess (key_at keys place) (key_at keys other) =
      λ other before. less_along (key_at keys place) (key_at keys least) (key_at keys other)
      (scale_of place within) (scale_of least (let w = h.within in omega arith)) (scale_of other (omega arith)) less (h.least other before) in
      record {
        within = omega arith;
        least = λ other before. ⊎_elim
            (λ l. let b = below other l in omega (arith, ints))
            (λ e. subst (λ o. IsAtMost (key_at keys place) (key_at keys o)) (sym e) (at_most_itself (key_at keys place)))
            (before_or_at other place before);
        first = below;
      }

  at_most_unless_less : (key other : ℤ × ℤ) → (IsLess key other → ⊥) → IsAtMost other key
  at_most_unless_less key other none =
      ⊎_elim (λ l. absurd (none l)) (λ h. h) (int_lt_or_le (key.0 *ℤ other.1) (other.0 *ℤ key.1))

  pub same_least : (least place : ℕ) → place < length keys → IsFirstLeastOf keys place least
      → (IsLess (key_at keys place) (key_at keys least) → ⊥) → IsFirstLeastOf keys (place + 1) least
  same_least least place within h none =
      record {
        within = let w = h.within in omega arith;
        least = λ other before. ⊎_elim
            (λ l. h.least other l)
            (λ e. subst (λ o. IsAtMost (key_at keys least) (key_at keys o)) (sym e) (at_most_unless_less (key_at keys place) (key_at keys least) none))
            (before_or_at other place before);
        first = h.first;
      }

pub only_first : (keys : List (ℤ × ℤ)) → IsFirstLeastOf keys 1 0
only_first keys = record {
  within = omega arith;
  least = λ other before. subst (λ o. IsAtMost (key_at keys 0) (key_at keys o)) (omega arith) (at_most_itself (key_at keys 0));
  first = λ other before. absurd (omega arith);
}

pub of_all : (keys : List (ℤ × ℤ)) (count place : ℕ) → count ≡ length keys → IsFirstLeastOf keys count place → IsFirstLeast keys place
of_all keys count place e h = record { within = let w = h.within in omega arith; least = λ other before. h.least other (omega arith); first = h.first }
