-- Keys of nodes: a value over a scale, and their order. Here stand which pairs are keys, when one key is less than another, and the
-- first least of several.
use Rattle.std.specs.Prelude.{ℕ, ◌^◌, ◌<◌, ◌≤◌, List, length, slice_index_or, ℤ, pos, ◌*ℤ◌, ◌≤ℤ◌, ◌<ℤ◌, unsigned_abs}
use Rattle.algebra.specs.Scale.{IsScale}

-- a value of a leaf, within its width, and its scale
pub record IsKey (key : ℤ × ℤ) : Type 0 where
  pub value : unsigned_abs key.0 ≤ 2 ^ 86
  pub scale : IsScale key.1

-- value over scale is less than, or at most, the other value over the other scale, where both scales are above 0
abbrev pub IsLess : ℤ × ℤ → ℤ × ℤ → Type 0
IsLess key other = (key.0 *ℤ other.1) <ℤ (other.0 *ℤ key.1)

abbrev pub IsAtMost : ℤ × ℤ → ℤ × ℤ → Type 0
IsAtMost key other = (key.0 *ℤ other.1) ≤ℤ (other.0 *ℤ key.1)

-- the key at a place, counted from 0
abbrev pub key_at : List (ℤ × ℤ) → ℕ → ℤ × ℤ
key_at keys place = slice_index_or keys place (pos 0, pos 0)

-- the key at the place is at most every other one, and less than those before it
pub record IsFirstLeast (keys : List (ℤ × ℤ)) (place : ℕ) : Type 0 where
  pub within : place < length keys
  pub least : (other : ℕ) → other < length keys → IsAtMost (key_at keys place) (key_at keys other)
  pub first : (other : ℕ) → other < place → IsLess (key_at keys place) (key_at keys other)
