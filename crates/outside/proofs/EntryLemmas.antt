-- What the maps of a list of entries are after a change of one entry.
use Rattle.std.proofs.Common.{◌≡◌, ℕ, zero, suc, ◌<◌, ◌≤◌, Bool, true, false, cond, List, [], ◌∷◌, ◌++◌, length, get_or, set, Option, Some, None, refl, sym, ◌∙◌, ap, subst, arith}
use Rattle.std.proofs.lemmas.Bool.{false≢true, ltb-false}
use Rattle.std.proofs.Math.ListN.{get_or-append}
use Rattle.std.proofs.lemmas.Cmp.{tied_itself}
use Rattle.std.specs.Ordering.{nat_cmp, eq_by_cmp, is_eq}
use Rattle.std.specs.Cmp.{Equal-is}
use Rattle.std.specs.Cmp.Lexicographic.{slice_cmp, nat_list_cmp_total}
use Rattle.std.specs.FinMap.{FinMap, get, same_map, get-empty, get-insert, get-remove, nat_cmp-IsAntisymmetric, slice_cmp-IsAntisymmetric}
use Rattle.std.specs.List.{position, position_or_len}
use Rattle.std.proofs.lemmas.Option.{none-some}
use Rattle.std.proofs.lemmas.List.Sums.{fails_before_first}
use Rattle.std.proofs.lemmas.List.{length_push, get_or_push}
use Rattle.std.proofs.lemmas.List.Quantifiers.{position-Some}
use Rattle.outside.specs.inside.Entry.{NamedFile, unused, is_named, with_part, map_of, files_of, rooms_of, IsFirstEntry, HasNone}

abbrev Name : Type 0
Name = List ℕ

abbrev ties : Name → Name → Bool
ties q n = eq_by_cmp (slice_cmp nat_cmp) q n

-- what the first entry with the name has
abbrev pub lookup : {V : Type 0} → (NamedFile → Option V) → Name → List NamedFile → Option V
lookup part q [] = None
lookup part q (e ∷ es) = cond (ties q e.name) (part e) (lookup part q es)

pub get-with_part : {V : Type 0} (m : FinMap (slice_cmp nat_cmp) V) (n : Name) (p : Option V) (q : Name) → get (with_part m n p) q ≡ cond (ties q n) p (get m q)
get-with_part m n (Some v) q = get-insert nat_list_cmp_total m n v q
get-with_part m n None q = get-remove nat_list_cmp_total m n q

pub get-map_of : {V : Type 0} (part : NamedFile → Option V) (es : List NamedFile) (q : Name) → get (map_of part es) q ≡ lookup part q es
get-map_of part [] q = get-empty (slice_cmp nat_cmp) q
get-map_of part (e ∷ es) q =
    get-with_part (map_of part es) e.name (part e) q ∙ ap (cond (ties q e.name) (part e)) (get-map_of part es q)

-- maps that answer alike are one map
same : {V : Type 0} (m n : FinMap (slice_cmp nat_cmp) V) → ((q : Name) → get m q ≡ get n q) → m ≡ n
same = same_map nat_list_cmp_total (slice_cmp-IsAntisymmetric nat_cmp-IsAntisymmetric)

-- names that tie are equal
same_name : (q n : Name) → ties q n ≡ true → q ≡ n
same_name q n e = slice_cmp-IsAntisymmetric nat_cmp-IsAntisymmetric q n ((Equal-is (slice_cmp nat_cmp q n)).0 e)

own_name : (n : Name) → ties n n ≡ true
own_name n = ap is_eq (tied_itself nat_list_cmp_total n)

-- an entry that stands before the changed one has another name
swapped : {V : Type 0} (a b : Bool) (x y z : Option V) → (a ≡ true → b ≡ true → ⊥) → cond a x (cond b y z) ≡ cond b y (cond a x z)
swapped true true x y z apart = absurd (apart refl refl)
swapped true false x y z apart = refl
swapped false b x y z apart = refl

shadowed : {V : Type 0} (a : Bool) (x y z : Option V) → cond a x z ≡ cond a x (cond a y z)
shadowed true x y z = refl
shadowed false x y z = refl

-- no entry before the i-th has the name, with any default past the end
abbrev pub NoneBelow : Name → List NamedFile → ℕ → NamedFile → Type 0
NoneBelow n es i d = (k : ℕ) → k < i → is_named n (get_or es k d) ≡ false

others : (n : Name) (e : NamedFile) (es : List NamedFile) (i : ℕ) (d : NamedFile) → NoneBelow n (e ∷ es) (suc i) d → NoneBelow n es i d
others n e es i d none k h = none (suc k) (omega arith)

other : (n m q : Name) → ties n m ≡ false → ties q m ≡ true → ties q n ≡ true → ⊥
other n m q differ one two =
    false≢true (sym differ ∙ subst (λ (x : Name). ties x m ≡ true) (same_name q n two) one)

pub lookup-set : {V : Type 0} (part : NamedFile → Option V) (n q : Name) (es : List NamedFile) (i : ℕ) (new d : NamedFile) → i < length es → (get_or es i d).name ≡ n → new.name ≡ n → NoneBelow n es i d → lookup part q (set es i new) ≡ cond (ties q n) (part new) (lookup part q es)
lookup-set part n q [] i new d h was is none = absurd (omega arith)
lookup-set part n q (e ∷ es) zero new d h was is none =
    ap (λ (m : Name). cond (ties q m) (part new) (lookup part q es)) is
    ∙ shadowed (ties q n) (part new) (part e) (lookup part q es)
    ∙ ap (λ (m : Name). cond (ties q n) (part new) (cond (ties q m) (part e) (lookup part q es))) (sym was)
lookup-set part n q (e ∷ es) (suc i) new d h was is none =
    ap (cond (ties q e.name) (part e)) (lookup-set part n q es i new d (omega arith) was is (others n e es i d none))
    ∙ swapped (ties q e.name) (ties q n) (part e) (part new) (lookup part q es) (other n e.name q (none zero (omega arith)))

-- a new name's entry at the end
pub lookup-push : {V : Type 0} (part : NamedFile → Option V) (n q : Name) (es : List NamedFile) (new d : NamedFile) → new.name ≡ n → NoneBelow n es (length es) d → lookup part q (es ++ new ∷ []) ≡ cond (ties q n) (part new) (lookup part q es)
lookup-push part n q [] new d is none = ap (λ (m : Name). cond (ties q m) (part new) None) is
lookup-push part n q (e ∷ es) new d is none =
    ap (cond (ties q e.name) (part e)) (lookup-push part n q es new d is (others n e es (length es) d none))
    ∙ swapped (ties q e.name) (ties q n) (part e) (part new) (lookup part q es) (other n e.name q (none zero (omega arith)))

-- what the entry at i has, where it is the first with the name
pub lookup-at : {V : Type 0} (part : NamedFile → Option V) (n : Name) (es : List NamedFile) (i : ℕ) (d : NamedFile) → i < length es → (get_or es i d).name ≡ n → NoneBelow n es i d → lookup part n es ≡ part (get_or es i d)
lookup-at part n [] i d h was none = absurd (omega arith)
lookup-at part n (e ∷ es) zero d h was none =
    ap (λ b. cond b (part e) (lookup part n es)) (ap (ties n) was ∙ own_name n)
lookup-at part n (e ∷ es) (suc i) d h was none =
    ap (λ b. cond b (part e) (lookup part n es)) (none zero (omega arith))
    ∙ lookup-at part n es i d (omega arith) was (others n e es i d none)

pub lookup-none : {V : Type 0} (part : NamedFile → Option V) (n : Name) (es : List NamedFile) (d : NamedFile) → NoneBelow n es (length es) d → lookup part n es ≡ None
lookup-none part n [] d none = refl
lookup-none part n (e ∷ es) d none =
    ap (λ b. cond b (part e) (lookup part n es)) (none zero (omega arith)) ∙ lookup-none part n es d (others n e es (length es) d none)

-- where the first entry with a name changes, the map changes at that name alone
pub map_of-set : {V : Type 0} (part : NamedFile → Option V) (n : Name) (es : List NamedFile) (i : ℕ) (new : NamedFile) → IsFirstEntry n es i → new.name ≡ n → map_of part (set es i new) ≡ with_part (map_of part es) n (part new)
map_of-set part n es i new first is = same _ _ (λ q.
    get-map_of part (set es i new) q
    ∙ lookup-set part n q es i new (unused n) first.within first.named is first.before
    ∙ ap (cond (ties q n) (part new)) (sym (get-map_of part es q))
    ∙ sym (get-with_part (map_of part es) n (part new) q))

pub get-map_of_first : {V : Type 0} (part : NamedFile → Option V) (n : Name) (es : List NamedFile) (i : ℕ) → IsFirstEntry n es i → get (map_of part es) n ≡ part (get_or es i (unused n))
get-map_of_first part n es i first = get-map_of part es n ∙ lookup-at part n es i (unused n) first.within first.named first.before

pub get-map_of_none : {V : Type 0} (part : NamedFile → Option V) (n : Name) (es : List NamedFile) → HasNone n es → get (map_of part es) n ≡ None
get-map_of_none part n es none = get-map_of part es n ∙ lookup-none part n es (unused n) none

-- to put back what the map has at a name changes nothing
with_part_same : {V : Type 0} (m : FinMap (slice_cmp nat_cmp) V) (n : Name) (p : Option V) → get m n ≡ p → with_part m n p ≡ m
with_part_same m n p is = same _ _ (λ q. get-with_part m n p q ∙ kept q (ties q n) refl)
  where
    kept : (q : Name) (b : Bool) → ties q n ≡ b → cond b p (get m q) ≡ get m q
    kept q true e = sym is ∙ ap (get m) (sym (same_name q n e))
    kept q false e = refl

pub map_of-set_same : {V : Type 0} (part : NamedFile → Option V) (n : Name) (es : List NamedFile) (i : ℕ) (new : NamedFile) → IsFirstEntry n es i → new.name ≡ n → part new ≡ part (get_or es i (unused n)) → map_of part (set es i new) ≡ map_of part es
map_of-set_same part n es i new first is kept =
    map_of-set part n es i new first is
    ∙ with_part_same (map_of part es) n (part new) (get-map_of_first part n es i first ∙ sym kept)

-- an entry that knows nothing of a new name changes nothing
pub map_of-push : {V : Type 0} (part : NamedFile → Option V) (n : Name) (es : List NamedFile) → HasNone n es → part (unused n) ≡ None → map_of part (es ++ unused n ∷ []) ≡ map_of part es
map_of-push part n es none nothing = same _ _ (λ q.
    get-map_of part (es ++ unused n ∷ []) q
    ∙ lookup-push part n q es (unused n) (unused n) refl none
    ∙ ap (cond (ties q n) (part (unused n))) (sym (get-map_of part es q))
    ∙ sym (get-with_part (map_of part es) n (part (unused n)) q)
    ∙ ap (λ m. get m q) (with_part_same (map_of part es) n (part (unused n)) (get-map_of_none part n es none ∙ sym nothing)))

-- and is the first with the name
pub first-push : (n : Name) (es : List NamedFile) → HasNone n es → IsFirstEntry n (es ++ unused n ∷ []) (length es)
first-push n es none = record {
  within = omega (arith, length_push es (unused n));
  named = ap (λ (e : NamedFile). e.name) (get_or_push es (unused n) (unused n) (length es) refl);
  before = λ k h. ap (is_named n) (get_or-append es (unused n ∷ []) (unused n) k h) ∙ none k h;
}

-- what a search for the name tells
pub first_from_position : (n : Name) (es seen : List NamedFile) (i : ℕ) → seen ≡ es → Some i ≡ position (is_named n) seen → IsFirstEntry n es i
first_from_position n es seen i is e =
    let at = position-Some (is_named n) seen i (unused n) (sym e) in
    subst (λ (l : List NamedFile). IsFirstEntry n l i) is record { within = at.0; named = sym (same_name n _ at.1); before = at.2 }

nothing_found : (b : Bool) (i : ℕ) → None ≡ cond b (Some i) None → b ≡ false
nothing_found true i e = absurd (none-some i e)
nothing_found false i e = refl

none_before : (n : Name) (es : List NamedFile) → None ≡ position (is_named n) es → HasNone n es
none_before n es e k h =
    let past : length es ≤ position_or_len (is_named n) es = ltb-false _ _ (nothing_found _ _ e) in
    fails_before_first (is_named n) es k (unused n) (omega arith)

pub none_from_position : (n : Name) (es seen : List NamedFile) → seen ≡ es → None ≡ position (is_named n) seen → HasNone n es
none_from_position n es seen is e = subst (HasNone n) is (none_before n seen e)

-- a new entry behind the others
pub after_push : (n : Name) (es now : List NamedFile) (new : NamedFile) (i : ℕ) → HasNone n es → new ≡ unused n → i ≡ length es → now ≡ es ++ new ∷ [] → IsFirstEntry n now i × (files_of now ≡ files_of es) × (rooms_of now ≡ rooms_of es)
after_push n es now new i none is at e =
    let whole : now ≡ es ++ unused n ∷ [] = e ∙ ap (λ (x : NamedFile). es ++ x ∷ []) is in (
      subst (λ (l : List NamedFile). IsFirstEntry n l i) (sym whole) (subst (IsFirstEntry n (es ++ unused n ∷ [])) (sym at) (first-push n es none)),
      ap files_of whole ∙ map_of-push (λ x. x.file) n es none refl,
      ap rooms_of whole ∙ map_of-push (λ x. x.room) n es none refl,
    )
