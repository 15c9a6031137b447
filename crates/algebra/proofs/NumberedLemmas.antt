-- Entries of a list by their numbers, against its positions.
use Rattle.std.proofs.Common.{◌≡◌, ℕ, zero, suc, ◌-◌, ◌<◌, ◌≤◌, List, [], ◌∷◌, length, get_or, map, arith, ⊎_elim, subst, sym, ap, refl}
use Rattle.std.specs.List.{All}
use Rattle.std.proofs.lemmas.Bool.{cases_lt}
use Rattle.std.proofs.lemmas.List.{get_or_past, ext_get_or}
use Rattle.std.proofs.lemmas.List.Elements.{All-from_get_or}
use Rattle.algebra.specs.Numbered.{numbered, IsNumber}

-- what holds of each entry and of the other one holds at each number
pub numbered_all : {A : Type 0} (P : A → Type 0) (other : A) (xs : List A) → P other → All P xs → (i : ℕ) → P (numbered other xs i)
numbered_all P other xs p h zero = p
numbered_all P other xs p h (suc k) =
    ⊎_elim
    (λ (l : k < length xs). h k other l)
    (λ (l : length xs ≤ k). subst P (sym (get_or_past xs k other l)) p)
    (cases_lt k (length xs))

pub all_numbered : {A : Type 0} (P : A → Type 0) (other : A) (xs : List A) → ((i : ℕ) → P (numbered other xs i)) → All P xs
all_numbered P other xs h = All-from_get_or P xs other (λ i l. h (suc i))

-- what holds of each entry holds at each number of one, and the other way round
pub numbered_in : {A : Type 0} (P : A → Type 0) (other : A) (xs : List A) → All P xs → (i : ℕ) → IsNumber i (length xs) → P (numbered other xs i)
numbered_in P other xs h zero n = absurd (omega arith)
numbered_in P other xs h (suc k) n = h k other (omega arith)

pub all_from_numbers : {A : Type 0} (P : A → Type 0) (other : A) (xs : List A) → ((i : ℕ) → IsNumber i (length xs) → P (numbered other xs i)) → All P xs
all_from_numbers P other xs h = All-from_get_or P xs other (λ i l. h (suc i) (record { from_one = omega arith; at_most = omega arith }))

-- the entry with this number stands at the position before it
pub numbered_at : {A : Type 0} (other : A) (xs : List A) (i : ℕ) → 1 ≤ i → numbered other xs i ≡ get_or xs (i - 1) other
numbered_at other xs zero low = absurd (omega arith)
numbered_at other xs (suc k) low = let e : suc k - 1 ≡ k = omega arith in ap (λ j. get_or xs j other) (sym e)

-- past the end stands the other one
pub numbered_past : {A : Type 0} (other : A) (xs : List A) (i : ℕ) → length xs < i → numbered other xs i ≡ other
numbered_past other xs zero h = refl
numbered_past other xs (suc k) h = get_or_past xs k other (omega arith)

-- a function of the entry with this number
pub numbered-map : {A B : Type 0} (f : A → B) (other : A) (xs : List A) (i : ℕ) → numbered (f other) (map f xs) i ≡ f (numbered other xs i)
numbered-map f other xs zero = refl
numbered-map f other [] (suc k) = refl
numbered-map f other (x ∷ xs) (suc zero) = refl
numbered-map f other (x ∷ xs) (suc (suc k)) = numbered-map f other xs (suc k)

-- lists of one length with equal entries are equal
pub same_by_number : {A : Type 0} (other : A) (xs ys : List A) → length xs ≡ length ys → ((i : ℕ) → IsNumber i (length xs) → numbered other xs i ≡ numbered other ys i) → xs ≡ ys
same_by_number other xs ys p h =
    ext_get_or other xs ys p (λ i l. h (suc i) (record { from_one = omega arith; at_most = omega arith }))
