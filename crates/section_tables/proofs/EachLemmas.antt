-- Entries found one after another.
use Rattle.std.proofs.Common.{◌≡◌, List, [], ◌∷◌, ◌++◌, Option, Some, None, Err, refl, sym, ap, ◌∙◌, append_assoc}
use Rattle.std.proofs.lemmas.List.{append-nil}
use Rattle.section_tables.specs.declared.error.TableErr.{TableErr}
use Rattle.section_tables.specs.declared.error.TableErr.TheVariants.{Refused, NoMemory}
use Rattle.section_tables.specs.Steps.{◌>>=◌, each, MayAnswer}

-- what was found so far, before what is found for the entries that are left
abbrev pub each_with : {A B : Type 0} → (A → Option B) → List B → List A → Option (List B)
each_with find front xs = each find xs >>= (λ ys. Some (front ++ ys))

push_front : {B : Type 0} (front : List B) (y : B) (o : Option (List B)) → (o >>= (λ ys. Some (y ∷ ys))) >>= (λ ys. Some (front ++ ys)) ≡ o >>= (λ ys. Some ((front ++ y ∷ []) ++ ys))
push_front front y None = refl
push_front front y (Some ys) = ap Some (sym (append_assoc front (y ∷ []) ys))

pub each_more : {A B : Type 0} (find : A → Option B) (front : List B) (x : A) (xs : List A) (y : B) → find x ≡ Some y → each_with find front (x ∷ xs) ≡ each_with find (front ++ y ∷ []) xs
each_more find front x xs y e =
    ap (λ o. (o >>= (λ z. each find xs >>= (λ ys. Some (z ∷ ys)))) >>= (λ ys. Some (front ++ ys))) e ∙ push_front front y (each find xs)

pub each_stops : {A B : Type 0} (find : A → Option B) (front : List B) (x : A) (xs : List A) → find x ≡ None → each_with find front (x ∷ xs) ≡ None
each_stops find front x xs e = ap (λ o. (o >>= (λ z. each find xs >>= (λ ys. Some (z ∷ ys)))) >>= (λ ys. Some (front ++ ys))) e

-- an entry for which nothing is found, or memory was wanting
pub each_refused : {A B : Type 0} (find : A → Option B) (front : List B) (x : A) (xs : List A) (e : TableErr) (due : Option (List B))
    → due ≡ each_with find front (x ∷ xs) → MayAnswer {A = B} (Err e) (find x) → MayAnswer {A = List B} (Err e) due
each_refused find front x xs Refused due so_far h = so_far ∙ each_stops find front x xs h
each_refused find front x xs NoMemory due so_far h = tt

start : {B : Type 0} (o : Option (List B)) → o ≡ o >>= (λ ys. Some ([] ++ ys))
start None = refl
start (Some ys) = refl

pub each_start : {A B : Type 0} (find : A → Option B) (xs : List A) → each find xs ≡ each_with find [] xs
each_start find xs = start (each find xs)

-- what was found for a list was found for its first entry and for the others
abbrev FoundBy : {A B : Type 0} → (A → Option B) → A → List A → List B → Type 0
FoundBy {A} {B} find x xs found = (y : B) × (ys : List B) × (find x ≡ Some y) × (each find xs ≡ Some ys) × (found ≡ y ∷ ys)

both_found : {B : Type 0} (first : Option B) (others : Option (List B)) (found : List B) → first >>= (λ y. others >>= (λ ys. Some (y ∷ ys))) ≡ Some found
    → (y : B) × (ys : List B) × (first ≡ Some y) × (others ≡ Some ys) × (found ≡ y ∷ ys)
both_found None others found e = cc
both_found (Some y) None found e = cc
both_found (Some y) (Some ys) found e = (y, ys, refl, refl, cc)

cons_front : {B : Type 0} (y : B) (ys : List B) (o : Option (List B)) → (o >>= (λ ws. Some (ys ++ ws))) >>= (λ ws. Some (y ∷ ws)) ≡ o >>= (λ ws. Some ((y ∷ ys) ++ ws))
cons_front y ys None = refl
cons_front y ys (Some ws) = refl

-- the entries of two lists, the first of which were all found
pub each_append : {A B : Type 0} (find : A → Option B) (xs zs : List A) (found : List B) → each find xs ≡ Some found → each find (xs ++ zs) ≡ each_with find found zs
each_append find [] zs found e =
    let none : found ≡ [] = cc in
    each_start find zs ∙ ap (λ front. each_with find front zs) (sym none)
each_append find (x ∷ xs) zs found e =
    let (y, ys, first, others, is) = both_found (find x) (each find xs) found e in
    let more = each_append find xs zs ys others in
    ap (λ o. find x >>= (λ z. o >>= (λ ws. Some (z ∷ ws)))) more ∙ ap (λ o. o >>= (λ z. each_with find ys zs >>= (λ ws. Some (z ∷ ws)))) first ∙ cons_front y ys (each find zs) ∙ ap (λ front. each_with find front zs) (sym is)

-- one more that was found
pub each_one_more : {A B : Type 0} (find : A → Option B) (xs : List A) (x : A) (found : List B) (y : B) → each find xs ≡ Some found → find x ≡ Some y → each find (xs ++ x ∷ []) ≡ Some (found ++ y ∷ [])
each_one_more find xs x found y e first =
    each_append find xs (x ∷ []) found e ∙ each_more find found x [] y first ∙ ap Some (append-nil (found ++ y ∷ []))

-- one that wasn't
pub each_none_more : {A B : Type 0} (find : A → Option B) (xs : List A) (x : A) (zs : List A) (found : List B) → each find xs ≡ Some found → find x ≡ None → each find (xs ++ x ∷ zs) ≡ None
each_none_more find xs x zs found e first = each_append find xs (x ∷ zs) found e ∙ each_stops find found x zs first
