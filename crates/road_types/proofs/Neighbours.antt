-- A step of a loop that compares each entry of a list with the next, or with all later ones.
use Rattle.std.specs.Prelude.{Bool, ◌&&◌}
use Rattle.std.specs.List.{list_all}
use Rattle.std.proofs.Common.{◌≡◌, ℕ, zero, suc, ◌+◌, ◌<◌, ◌≤◌, true, false, List, [], ◌∷◌, length, get_or, drop, ap, sym, subst, ◌∙◌, refl, arith}
use Rattle.std.proofs.lemmas.List.{drop_more, drop_all}
use Rattle.road_types.specs.RecordFaults.{all_neighbours, all_pairs}

pub all_neighbours-cons : {A : Type 0} (R : A → A → Bool) (x y : A) (rest : List A) → all_neighbours R (x ∷ y ∷ rest) ≡ (R x y && all_neighbours R (y ∷ rest))
unfolding all_neighbours
all_neighbours-cons R x y rest = refl

pub all_neighbours-one : {A : Type 0} (R : A → A → Bool) (x : A) → all_neighbours R (x ∷ []) ≡ true
unfolding all_neighbours
all_neighbours-one R x = refl

pub all_neighbours-none : {A : Type 0} (R : A → A → Bool) → all_neighbours R [] ≡ true
unfolding all_neighbours
all_neighbours-none R = refl

-- from entry k on, entry k against entry k+1, and then from entry k+1 on
pub all_neighbours-drop : {A : Type 0} (R : A → A → Bool) (xs : List A) (k : ℕ) (d e : A) → k + 1 < length xs
    → all_neighbours R (drop k xs) ≡ (R (get_or xs k d) (get_or xs (k + 1) e) && all_neighbours R (drop (k + 1) xs))
all_neighbours-drop R xs k d e h =
    let p : drop (k + 1) xs ≡ get_or xs (k + 1) e ∷ drop (k + 1 + 1) xs = drop_more xs (k + 1) e h in
    let q : drop k xs ≡ get_or xs k d ∷ drop (k + 1) xs = drop_more xs k d (omega arith) in
    rw (q, p) (all_neighbours-cons R _ _ _)

-- the last entry has no next one
pub all_neighbours-last : {A : Type 0} (R : A → A → Bool) (xs : List A) (k : ℕ) → length xs ≤ k + 1 → all_neighbours R (drop k xs) ≡ true
all_neighbours-last R [] zero h = all_neighbours-none R
all_neighbours-last R [] (suc k) h = all_neighbours-none R
all_neighbours-last R (x ∷ []) zero h = all_neighbours-one R x
all_neighbours-last R (x ∷ y ∷ rest) zero h = absurd (omega arith)
all_neighbours-last R (x ∷ rest) (suc k) h = all_neighbours-last R rest k (omega arith)

pub all_pairs-none : {A : Type 0} (R : A → A → Bool) → all_pairs R [] ≡ true
unfolding all_pairs
all_pairs-none R = refl

pub all_pairs-cons : {A : Type 0} (R : A → A → Bool) (x : A) (rest : List A) → all_pairs R (x ∷ rest) ≡ (list_all (R x) rest && all_pairs R rest)
unfolding all_pairs
all_pairs-cons R x rest = refl

-- from entry k on, entry k against all later ones, and then from entry k+1 on
pub all_pairs-drop : {A : Type 0} (R : A → A → Bool) (xs : List A) (k : ℕ) (d : A) → k < length xs
    → all_pairs R (drop k xs) ≡ (list_all (R (get_or xs k d)) (drop (k + 1) xs) && all_pairs R (drop (k + 1) xs))
all_pairs-drop R xs k d h = rw (drop_more xs k d h) (all_pairs-cons R _ _)

pub all_pairs-end : {A : Type 0} (R : A → A → Bool) (xs : List A) (k : ℕ) → length xs ≤ k → all_pairs R (drop k xs) ≡ true
all_pairs-end R xs k h = rw (drop_all k xs h) (all_pairs-none R)

-- an entry that doesn't stand in the relation to the next settles it
pub neighbours_fail : {A : Type 0} (R : A → A → Bool) (xs : List A) (i j : ℕ) (d e : A) → i ≡ j + 1 → i < length xs
    → all_neighbours R (drop j xs) ≡ all_neighbours R xs → R (get_or xs j d) (get_or xs i e) ≡ false
    → false ≡ all_neighbours R xs
neighbours_fail R xs i j d e at h so_far here =
    let here' : R (get_or xs j d) (get_or xs (j + 1) e) ≡ false = subst (λ (n : ℕ). R (get_or xs j d) (get_or xs n e) ≡ false) at here in
    sym (sym so_far ∙ all_neighbours-drop R xs j d e (omega arith) ∙ ap (λ b. b && all_neighbours R (drop (j + 1) xs)) here')

-- an entry that does leaves it to the rest
pub neighbours_go : {A : Type 0} (R : A → A → Bool) (xs : List A) (i j : ℕ) (d e : A) → i ≡ j + 1 → i < length xs
    → all_neighbours R (drop j xs) ≡ all_neighbours R xs → R (get_or xs j d) (get_or xs i e) ≡ true
    → all_neighbours R (drop i xs) ≡ all_neighbours R xs
neighbours_go R xs i j d e at h so_far here =
    let here' : R (get_or xs j d) (get_or xs (j + 1) e) ≡ true = subst (λ (n : ℕ). R (get_or xs j d) (get_or xs n e) ≡ true) at here in
    ap (λ n. all_neighbours R (drop n xs)) at
    ∙ sym (ap (λ b. b && all_neighbours R (drop (j + 1) xs)) here')
    ∙ sym (all_neighbours-drop R xs j d e (omega arith))
    ∙ so_far

pub pairs_fail : {A : Type 0} (R : A → A → Bool) (xs rest : List A) (i : ℕ) (d : A) → i < length xs
    → all_pairs R (drop i xs) ≡ all_pairs R xs → rest ≡ drop (i + 1) xs → list_all (R (get_or xs i d)) rest ≡ false
    → false ≡ all_pairs R xs
pairs_fail R xs rest i d h so_far is here =
    let here' : list_all (R (get_or xs i d)) (drop (i + 1) xs) ≡ false = subst (λ (r : List _). list_all (R (get_or xs i d)) r ≡ false) is here in
    sym (sym so_far ∙ all_pairs-drop R xs i d h ∙ ap (λ b. b && all_pairs R (drop (i + 1) xs)) here')

pub pairs_go : {A : Type 0} (R : A → A → Bool) (xs rest : List A) (i : ℕ) (d : A) → i < length xs
    → all_pairs R (drop i xs) ≡ all_pairs R xs → rest ≡ drop (i + 1) xs → list_all (R (get_or xs i d)) rest ≡ true
    → all_pairs R (drop (i + 1) xs) ≡ all_pairs R xs
pairs_go R xs rest i d h so_far is here =
    let here' : list_all (R (get_or xs i d)) (drop (i + 1) xs) ≡ true = subst (λ (r : List _). list_all (R (get_or xs i d)) r ≡ true) is here in
    sym (ap (λ b. b && all_pairs R (drop (i + 1) xs)) here') ∙ sym (all_pairs-drop R xs i d h) ∙ so_far
