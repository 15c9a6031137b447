-- Sums of a row over its columns, each entry times the bound at which the column stands, but for one column.
use Rattle.std.specs.Prelude.{ℕ, zero, suc, ◌==◌, Bool, false, cond, if◌then◌else◌, List, [], ◌∷◌, slice_index_or, ℤ, pos, ◌*ℤ◌}
use Rattle.term_store.specs.declared.term.Term.{Term}
use Rattle.sparse_rows.specs.Lines.{entry_of}

-- what the element at place j, counted from 0, stands for, 0 past the end
abbrev pub meaning_at : {A : Type 0} → (A → ℤ) → List A → ℕ → ℤ
meaning_at f [] j = pos 0
meaning_at f (x ∷ xs) zero = f x
meaning_at f (x ∷ xs) (suc j) = meaning_at f xs j

-- the bound at which column j stands
abbrev pub standing_at : {A : Type 0} → (A → ℤ) → List A → List A → List Bool → ℕ → ℤ
standing_at f low high at_high j = cond (slice_index_or at_high j false) (meaning_at f high j) (meaning_at f low j)

-- the share of column j in the sum of a row without one column
abbrev pub share : {A : Type 0} → (A → ℤ) → List (Term A) → ℕ → List A → List A → List Bool → ℕ → ℤ
share f terms without low high at_high j = if without == j then pos 0 else (entry_of f terms j *ℤ standing_at f low high at_high j)
