-- Numbering pits by their names.
use Rattle.std.proofs.Common.{◌≡◌, ℕ, ◌+◌, ◌<◌, ◌≤◌, Bool, true, false, cond, List, ◌∷◌, length, get_or, drop, Option, Some, None, IsSome, is_some, Bor, subst, unwrap_or, refl, ap, sym, ◌∙◌, add-one}
use Rattle.std.specs.Str.{bytes_eq}
use Rattle.std.proofs.lemmas.List.{drop_more, at_drop_all}
use Rattle.std.proofs.lemmas.Bool.{false≢true}
use Rattle.std.proofs.lemmas.Slice.Eq.{bytes_eq-Decides}
use Rattle.indexmap.specs.IndexMap.{IndexMap, get_by}
use Rattle.road_file.specs.declared.file.FilePit.{FilePit}
use Rattle.road_file.specs.Names.{number_from}

-- a number that was found, or else the number among the pits that are left
abbrev pub found_or : Option ℕ → ℕ → ℕ
found_or (Some n) rest = n
found_or None rest = rest

number_from-step : (first : ℕ) (name : List ℕ) (p : FilePit) (pits : List FilePit)
    → number_from first name (p ∷ pits) ≡ cond (bytes_eq p.name name) first (number_from (first + 1) name pits)
unfolding number_from
number_from-step first name p pits = rw (add-one) refl

number_from-more : (first : ℕ) (name : List ℕ) (pits : List FilePit) (i : ℕ) (p : FilePit) → i < length pits → p ≡ get_or pits i p
    → number_from first name (drop i pits) ≡ cond (bytes_eq p.name name) first (number_from (first + 1) name (drop (i + 1) pits))
number_from-more first name pits i p within at =
    ap (number_from first name) (drop_more pits i p within)
    ∙ number_from-step first name (get_or pits i p) (drop (i + 1) pits)
    ∙ ap (λ q. cond (bytes_eq q.name name) first (number_from (first + 1) name (drop (i + 1) pits))) (sym at)

at_known : (known : Bool) (found : Option ℕ) (first rest : ℕ) → (known ≡ true → IsSome found) → found_or found (cond known first rest) ≡ found_or found rest
at_known known (Some n) first rest h = refl
at_known true None first rest h = absurd (false≢true (h refl))
at_known false None first rest h = refl

at_new : (same : Bool) (found : Option ℕ) (first rest : ℕ) → (same ≡ true → found ≡ None) → found_or found (cond same first rest) ≡ found_or (cond same (Some first) found) rest
at_new true found first rest h = rw (h refl)
at_new false found first rest h = refl

-- at a pit whose name has a number
pub number_stays : (found : Option ℕ) (first : ℕ) (name : List ℕ) (pits : List FilePit) (i : ℕ) (p : FilePit) → i < length pits → p ≡ get_or pits i p → (bytes_eq p.name name ≡ true → IsSome found)
    → found_or found (number_from first name (drop i pits)) ≡ found_or found (number_from (first + 1) name (drop (i + 1) pits))
number_stays found first name pits i p within at h =
    ap (found_or found) (number_from-more first name pits i p within at) ∙ at_known (bytes_eq p.name name) found first _ h

-- at a pit with a new name
pub number_comes : (found : Option ℕ) (first : ℕ) (name : List ℕ) (pits : List FilePit) (i : ℕ) (p : FilePit) → i < length pits → p ≡ get_or pits i p → (bytes_eq p.name name ≡ true → found ≡ None)
    → found_or found (number_from first name (drop i pits)) ≡ found_or (cond (bytes_eq p.name name) (Some first) found) (number_from (first + 1) name (drop (i + 1) pits))
number_comes found first name pits i p within at h =
    ap (found_or found) (number_from-more first name pits i p within at) ∙ at_new (bytes_eq p.name name) found first _ h

pub number_ends : (found : Option ℕ) (first : ℕ) (name : List ℕ) (pits : List FilePit) (i due : ℕ) → length pits ≤ i → found_or found (number_from first name (drop i pits)) ≡ due → unwrap_or found 0 ≡ due
unfolding number_from
number_ends (Some n) first name pits i due past so_far = so_far
number_ends None first name pits i due past so_far = sym (at_drop_all (number_from first name) pits i past) ∙ so_far

-- what a map finds at one spelling of a name it finds at another
found_at : {S : Type 0} (numbers : IndexMap (Bor (List ℕ)) ℕ S) (one name : List ℕ) (b : Bool) → is_some (get_by (λ k. bytes_eq one k.now) numbers) ≡ b → bytes_eq one name ≡ true → is_some (get_by (λ k. bytes_eq name k.now) numbers) ≡ b
found_at numbers one name b h e =
    let same : one ≡ name = (bytes_eq-Decides one name).0 e in
    subst (λ n. is_some (get_by (λ k. bytes_eq n k.now) numbers) ≡ b) same h

none_of : (found : Option ℕ) → is_some found ≡ false → found ≡ None
none_of None h = refl
none_of (Some n) h = absurd (false≢true (sym h))

pub name_is_there : {S : Type 0} (numbers : IndexMap (Bor (List ℕ)) ℕ S) (one name : List ℕ) → is_some (get_by (λ k. bytes_eq one k.now) numbers) ≡ true → bytes_eq one name ≡ true → IsSome (get_by (λ k. bytes_eq name k.now) numbers)
name_is_there numbers one name h e = found_at numbers one name true h e

pub name_is_new : {S : Type 0} (numbers : IndexMap (Bor (List ℕ)) ℕ S) (one name : List ℕ) → is_some (get_by (λ k. bytes_eq one k.now) numbers) ≡ false → bytes_eq one name ≡ true → get_by (λ k. bytes_eq name k.now) numbers ≡ None
name_is_new numbers one name h e = none_of _ (found_at numbers one name false h e)
