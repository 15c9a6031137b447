-- Entries of a list by their numbers, which begin at 1.
use Rattle.std.specs.Prelude.{ℕ, zero, suc, ◌≤◌, List, slice_index_or}

-- the entry with this number; `other` at 0 and past the end
abbrev pub numbered : {A : Type 0} → A → List A → ℕ → A
numbered other xs zero = other
numbered other xs (suc k) = slice_index_or xs k other

-- a number of one of `count` entries
pub record IsNumber (i count : ℕ) : Type 0 where
  pub from_one : 1 ≤ i
  pub at_most : i ≤ count
