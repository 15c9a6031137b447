-- The first least of the leading keys of a list.
use Rattle.std.specs.Prelude.{ℕ, ◌<◌, List, ℤ}
use Rattle.best_first.specs.Keys.{IsLess, IsAtMost, key_at}

-- the place of the first least of the first `count` keys
pub record IsFirstLeastOf (keys : List (ℤ × ℤ)) (count place : ℕ) : Type 0 where
  pub within : place < count
  pub least : (other : ℕ) → other < count → IsAtMost (key_at keys place) (key_at keys other)
  pub first : (other : ℕ) → other < place → IsLess (key_at keys place) (key_at keys other)
