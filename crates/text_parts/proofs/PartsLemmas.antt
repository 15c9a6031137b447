-- The parts of bytes between separators.
use Rattle.std.proofs.Common.{◌≡◌, ◌==◌, ℕ, ◌+◌, ◌-◌, ◌<◌, ◌≤◌, Bool, false, inl, inr, List, [], ◌∷◌, ◌++◌, length, get_or, take, drop, All, refl, sym, ap, ◌∙◌, eq-eqb, take_all}
use Rattle.std.specs.List.{slice_split, onto_first}
use Rattle.std.proofs.lemmas.Bool.{cases_Bool, cond-true, cond-false}
use Rattle.std.proofs.lemmas.List.{drop_more, take-append-drop, take_rest}
use Rattle.std.proofs.lemmas.List.Splits.{slice_split_at, slice_split_none}
use Rattle.text_parts.specs.Words.{parts_between}

-- bytes are their front up to a place, the byte there, and the rest, as code cuts it
pub read_at : (xs : List ℕ) (i y : ℕ) → i < length xs → get_or xs i 0 ≡ y → xs ≡ take i xs ++ (y ∷ take (length xs - (i + 1)) (drop (i + 1) xs))
read_at xs i y lt read =
    sym (take-append-drop i xs)
    ∙ ap (λ zs. take i xs ++ zs) (drop_more xs i 0 lt ∙ ap (λ z. z ∷ drop (i + 1) xs) read ∙ ap (λ zs. y ∷ zs) (sym (take_rest xs (i + 1))))

-- the first part ends at the first separator
pub parts_at : (xs : List ℕ) (i y : ℕ) → i < length xs → get_or xs i 0 ≡ y → All (λ b. (b == y) ≡ false) (take i xs) → parts_between y xs ≡ take i xs ∷ parts_between y (take (length xs - (i + 1)) (drop (i + 1) xs))
parts_at xs i y lt read h =
    ap (parts_between y) (read_at xs i y lt read) ∙ slice_split_at (λ b. b == y) (take i xs) y _ h (eq-eqb y y refl)

-- where no byte is a separator there is one part
pub one_part : (xs : List ℕ) (i y : ℕ) → length xs ≤ i → All (λ b. (b == y) ≡ false) (take i xs) → parts_between y xs ≡ xs ∷ []
one_part xs i y le h =
    let all : All (λ b. (b == y) ≡ false) xs = rw (take_all i xs le) at h in slice_split_none (λ b. b == y) xs all

-- there is a first part
pub first_part : {X : Type 0} (p : X → Bool) (xs : List X) → (part : List X) × (parts : List (List X)) × (slice_split p xs ≡ part ∷ parts)
first_part p [] = ([], [], refl)
first_part p (x ∷ xs) =
    let more = first_part p xs in
    elim (cases_Bool (p x)) [
      | inl yes' ↦ ([], slice_split p xs, cond-true (p x) _ _ yes')
      | inr no' ↦ (x ∷ more.0, more.1, cond-false (p x) _ _ no' ∙ ap (onto_first x) more.2)
    ]
