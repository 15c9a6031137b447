-- Levels as they stand in an array, from a place on.
use Rattle.std.proofs.Common.{◌≡◌, ℕ, ◌+◌, ◌-◌, ◌<◌, ◌≤◌, zero, suc, true, Some, List, [], ◌∷◌, length, drop, slice_get, refl, sym, ap, subst, ◌∙◌, arith}
use Rattle.std.specs.Prelude.{slice_set, slice_index, nat_le}
use Rattle.std.specs.List.{list_all}
use Rattle.std.proofs.lemmas.Bool.{and_parts}
use Rattle.std.proofs.lemmas.List.{drop-drop}
use Rattle.cert_text.specs.Steps.{TreesDue}

-- the same level at two places, of which the second is this one
two_places : (xs : List ℕ) (i x : ℕ) → suc i < length xs → drop i (slice_set (slice_set xs (suc i) x) i x) ≡ x ∷ x ∷ drop (suc (suc i)) xs
two_places [] i x h = absurd (omega (arith, h))
two_places (a ∷ []) i x h = absurd (omega (arith, h))
two_places (a ∷ b ∷ xs) zero x h = refl
two_places (a ∷ b ∷ xs) (suc i) x h = two_places (b ∷ xs) i x (omega (arith, h))

descended : (xs : List ℕ) (next x : ℕ) → 0 < next → next < length xs → drop (next - 1) (slice_set (slice_set xs next x) (next - 1) x) ≡ x ∷ x ∷ drop (next + 1) xs
descended xs zero x p h = absurd (omega (arith, p))
descended xs (suc i) x p h =
    let back : suc i - 1 ≡ i = omega arith in
    let on : suc i + 1 ≡ suc (suc i) = omega arith in
    rw (back, on) (two_places xs i x h)

-- the first level from a place on stands at that place
top_place : (xs : List ℕ) (n a : ℕ) → slice_get (drop n xs) 0 ≡ Some a → (n < length xs) × (slice_index xs n ≡ a)
top_place [] zero a e = cc
top_place [] (suc n) a e = cc
top_place (x ∷ xs) zero a e = (omega arith, cc)
top_place (x ∷ xs) (suc n) a e = let more = top_place xs n a e in (omega (arith, more.0), more.1)

abbrev due_of : ℕ → List ℕ → TreesDue
due_of rows levels = record { rows = rows; levels = levels }

pub descend_view : (rows next x : ℕ) (xs : List ℕ) (v : TreesDue) → due_of rows (drop next xs) ≡ v → slice_get v.levels 0 ≡ Some (x + 1) → ((k : ℕ) → next ≤ k → slice_index xs k ≤ k) → due_of rows (drop (next - 1) (slice_set (slice_set xs next x) (next - 1) x)) ≡ due_of v.rows (x ∷ x ∷ drop 1 v.levels)
descend_view rows next x xs v e top low =
    let P : TreesDue → Type 0 = λ v. slice_get v.levels 0 ≡ Some (x + 1) → due_of rows (drop (next - 1) (slice_set (slice_set xs next x) (next - 1) x)) ≡ due_of v.rows (x ∷ x ∷ drop 1 v.levels) in
    subst P e
    (λ top.
    let place = top_place xs next (x + 1) top in
    let high = low next (omega arith) in
    ap (due_of rows) (descended xs next x (omega (arith, place.1, high)) place.0 ∙ ap (λ ls. x ∷ x ∷ ls) (sym (drop-drop 1 next xs))))
    top

none_above : (most : ℕ) (xs : List ℕ) → list_all (λ x. nat_le x most) xs ≡ true → (k : ℕ) → slice_index xs k ≤ most
none_above most [] e k = omega arith
none_above most (x ∷ xs) e zero = let parts = and_parts (nat_le x most) _ e in grind arith
none_above most (x ∷ xs) e (suc k) = none_above most xs (and_parts (nat_le x most) _ e).1 k

-- no level of the first array is above its place
pub start_low : (most : ℕ) (xs : List ℕ) → list_all (λ x. nat_le x most) xs ≡ true → (k : ℕ) → most ≤ k → slice_index xs k ≤ k
start_low most xs e k h = let low = none_above most xs e k in omega (arith, low, h)
