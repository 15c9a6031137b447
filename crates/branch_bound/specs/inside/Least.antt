-- The least bound of a tree that has grown, by the keys of its leaves.
use Rattle.std.specs.Prelude.{◌≡◌, ◌⊎◌, ℕ, List, [], Option, Some, None, ℤ, ◌*ℤ◌, ◌≤ℤ◌}
use Rattle.numbers.specs.Fractions.{Fraction, IsLowest, HasValue}
use Rattle.best_first.specs.Keys.{IsKey, IsFirstLeast, key_at}
use Rattle.branch_bound.specs.inside.Grown.{Grown, dead_leaf, whole_leaf, stopped_leaf, waiting_leaf, grown_fork, low_keys}

-- the bound is at most the key of each leaf that isn't dead
abbrev pub IsAtMostLow : Fraction → Grown → Type 0
IsAtMostLow bound (dead_leaf mults) = Unit {0}
IsAtMostLow bound (whole_leaf proved) = (bound.num *ℤ proved.scale) ≤ℤ (proved.value *ℤ bound.den)
IsAtMostLow bound (stopped_leaf proved note) = (bound.num *ℤ proved.scale) ≤ℤ (proved.value *ℤ bound.den)
IsAtMostLow bound (waiting_leaf leaf) = (bound.num *ℤ leaf.proved.scale) ≤ℤ (leaf.proved.value *ℤ bound.den)
IsAtMostLow bound (grown_fork split note key first second) = IsAtMostLow bound first × IsAtMostLow bound second

-- the bound is the key of some leaf that isn't dead
abbrev pub IsOfLow : Fraction → Grown → Type 0
IsOfLow bound (dead_leaf mults) = ⊥
IsOfLow bound (whole_leaf proved) = bound.num *ℤ proved.scale ≡ proved.value *ℤ bound.den
IsOfLow bound (stopped_leaf proved note) = bound.num *ℤ proved.scale ≡ proved.value *ℤ bound.den
IsOfLow bound (waiting_leaf leaf) = bound.num *ℤ leaf.proved.scale ≡ leaf.proved.value *ℤ bound.den
IsOfLow bound (grown_fork split note key first second) = IsOfLow bound first ⊎ IsOfLow bound second

-- the bound, in lowest terms, is the least key of the leaves that aren't dead; there is none where every leaf is dead
pub record IsLeastOf (grown : Grown) (bound : Fraction) : Type 0 where
  pub lowest : IsLowest bound
  pub key : IsKey (bound.num, bound.den)
  pub at_most : IsAtMostLow bound grown
  pub one : IsOfLow bound grown

-- the fraction, in lowest terms, is the first least of the keys
pub record IsLeastFraction (keys : List (ℤ × ℤ)) (bound : Fraction) : Type 0 where
  pub at : ℕ
  pub least : IsFirstLeast keys at
  pub lowest : IsLowest bound
  pub value : HasValue bound (key_at keys at).0 (key_at keys at).1

abbrev pub IsLeastKey : Grown → Option Fraction → Type 0
IsLeastKey grown None = low_keys grown ≡ []
IsLeastKey grown (Some bound) = IsLeastOf grown bound
