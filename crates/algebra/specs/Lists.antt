-- Lists of a function's values at 1, 2, .. up to a number, such lists one behind the other, and the entries of a list.
use Rattle.std.specs.Prelude.{◌≡◌, ℕ, zero, suc, ◌+◌, ◌<◌, List, [], ◌∷◌, ◌++◌, length, slice_index_or}

-- f 1, f 2, .., f n, and nothing where n is 0
abbrev pub list_to : {A : Type 0} → (ℕ → A) → ℕ → List A
list_to f zero = []
list_to f (suc n) = list_to f n ++ (f (suc n) ∷ [])

-- the lists f 1, f 2, .., f n one behind the other, and nothing where n is 0
abbrev pub flat_to : {A : Type 0} → (ℕ → List A) → ℕ → List A
flat_to f zero = []
flat_to f (suc n) = flat_to f n ++ f (suc n)

-- the total of a function's values at the entries of a list
abbrev pub total_of : {A : Type 0} → (A → ℕ) → List A → ℕ
total_of f [] = 0
total_of f (x ∷ xs) = f x + total_of f xs

-- x is the entry with number j of a list, counted from 1: it stands behind j - 1 others
pub record IsEntry {A : Type 0} (xs : List A) (j : ℕ) (x : A) : Type 0 where
  pub before : ℕ
  pub number : j ≡ suc before
  pub within : before < length xs
  pub is_entry : slice_index_or xs before x ≡ x
