-- The least key of the leaves that aren't dead is the least bound of the leaves.
use Rattle.std.proofs.Common.{◌≡◌, ℕ, ◌+◌, ◌-◌, ◌≤◌, ◌<◌, Bool, false, Option, Some, None, List, [], ◌∷◌, ◌++◌, length, length-append, get_or, MatchOption, refl, sym, ap, subst, arith, inl, inr, ⊎_elim, ◌∙◌}
use Rattle.std.specs.Prelude.{◌||◌, ℤ, pos, ◌*ℤ◌, ◌≤ℤ◌}
use Rattle.numbers.specs.Fractions.{Fraction, IsLowest, HasValue}
use Rattle.road_types.specs.declared.road.Road.{Road}
use Rattle.milp_builder.specs.Parts.{first_part, second_part}
use Rattle.milp_builder.specs.declared.boxes.BoxRange.{BoxRange}
use Rattle.cert_tree.specs.Soundness.{box_value, has_low}
use Rattle.cert_tree.specs.LeastBounds.{IsAtMostLeaves, IsOfSomeLeaf, IsLeastOfLeaves}
use Rattle.branch_bound.specs.Noted.{low_with, tree_of}
use Rattle.branch_bound.specs.inside.Grown.{Grown, dead_leaf, whole_leaf, stopped_leaf, waiting_leaf, grown_fork, IsGoodNode, IsProvedOfBox, proved_key, left_note, left_cause, reaches, cause_of, low_keys, noted_of, AreKeys}
use Rattle.branch_bound.specs.inside.Least.{IsAtMostLow, IsOfLow, IsLeastKey, IsLeastFraction}
use Rattle.branch_bound.specs.declared.work.Proved.{Proved}
use Rattle.branch_bound.specs.declared.notes.NodeNote.TheVariants.{Closed}
use Rattle.std.proofs.lemmas.List.{get_or_append_left, get_or-append-add, get_or_default}
use Rattle.std.proofs.lemmas.Bool.{cases_lt}
use Rattle.std.specs.List.{All}
use Rattle.std.proofs.lemmas.List.Elements.{All-nil, All-cons, All-append, All-get_or}
use Rattle.std.proofs.lemmas.Int.{ints}
use Rattle.best_first.specs.Keys.{IsKey, IsAtMost, key_at, IsFirstLeast}
use Rattle.best_first.proofs.KeyLemmas.{at_most_along}
use Rattle.branch_bound.proofs.GrowingLemmas.{at_either}
use Rattle.branch_bound.proofs.LowestKeys.{key_of_value}

leaf_at_most : (road : Road) (bound : Fraction) (box : BoxRange) (proved : Proved) → IsProvedOfBox road box proved
    → (bound.num *ℤ proved.scale) ≤ℤ (proved.value *ℤ bound.den) → (bound.num *ℤ proved.scale) ≤ℤ (box_value road box proved.scale proved.mults *ℤ bound.den)
leaf_at_most road bound box proved p h = subst (λ (v : ℤ). (bound.num *ℤ proved.scale) ≤ℤ (v *ℤ bound.den)) p.value_is h

pub at_most_leaves : (road : Road) (cost : Option Fraction) (bound : Fraction) (grown : Grown) (box : BoxRange) → IsGoodNode road cost grown box
    → IsAtMostLow bound grown → IsAtMostLeaves road bound (tree_of (noted_of cost grown)) box
at_most_leaves road cost bound (dead_leaf mults) box good h = tt
at_most_leaves road cost bound (whole_leaf proved) box good h = leaf_at_most road bound box proved good.0 h
at_most_leaves road cost bound (stopped_leaf proved note) box good h =
    let here = leaf_at_most road bound box proved good.0 h in
    at_either (λ n. IsAtMostLeaves road bound (tree_of n) box) (reaches cost proved)
    (low_with proved.scale proved.mults None Closed) (low_with proved.scale proved.mults (Some (cause_of note)) note) here here
at_most_leaves road cost bound (waiting_leaf leaf) box good h =
    let here = leaf_at_most road bound box leaf.proved good.own_bound h in
    at_either (λ n. IsAtMostLeaves road bound (tree_of n) box) (reaches cost leaf.proved)
    (low_with leaf.proved.scale leaf.proved.mults None Closed) (low_with leaf.proved.scale leaf.proved.mults (Some (left_cause leaf.reason)) (left_note leaf.reason)) here here
at_most_leaves road cost bound (grown_fork split note key first second) box good h =
    (at_most_leaves road cost bound first (first_part box split) good.3 h.0, at_most_leaves road cost bound second (second_part box split) good.4 h.1)

leaf_is : (road : Road) (bound : Fraction) (box : BoxRange) (proved : Proved) → IsProvedOfBox road box proved
    → bound.num *ℤ proved.scale ≡ proved.value *ℤ bound.den → bound.num *ℤ proved.scale ≡ box_value road box proved.scale proved.mults *ℤ bound.den
leaf_is road bound box proved p h = subst (λ (v : ℤ). bound.num *ℤ proved.scale ≡ v *ℤ bound.den) p.value_is h

pub of_some_leaf : (road : Road) (cost : Option Fraction) (bound : Fraction) (grown : Grown) (box : BoxRange) → IsGoodNode road cost grown box
    → IsOfLow bound grown → IsOfSomeLeaf road bound (tree_of (noted_of cost grown)) box
of_some_leaf road cost bound (dead_leaf mults) box good h = absurd h
of_some_leaf road cost bound (whole_leaf proved) box good h = leaf_is road bound box proved good.0 h
of_some_leaf road cost bound (stopped_leaf proved note) box good h =
    let here = leaf_is road bound box proved good.0 h in
    at_either (λ n. IsOfSomeLeaf road bound (tree_of n) box) (reaches cost proved)
    (low_with proved.scale proved.mults None Closed) (low_with proved.scale proved.mults (Some (cause_of note)) note) here here
of_some_leaf road cost bound (waiting_leaf leaf) box good h =
    let here = leaf_is road bound box leaf.proved good.own_bound h in
    at_either (λ n. IsOfSomeLeaf road bound (tree_of n) box) (reaches cost leaf.proved)
    (low_with leaf.proved.scale leaf.proved.mults None Closed) (low_with leaf.proved.scale leaf.proved.mults (Some (left_cause leaf.reason)) (left_note leaf.reason)) here here
of_some_leaf road cost bound (grown_fork split note key first second) box good h =
    ⊎_elim
    (λ i. inl (of_some_leaf road cost bound first (first_part box split) good.3 i))
    (λ i. inr (of_some_leaf road cost bound second (second_part box split) good.4 i))
    h

-- what is at most each key of the list is at most each leaf's
pub each_low : (bound : Fraction) (grown : Grown) → ((k : ℕ) → k < length (low_keys grown) → IsAtMost (bound.num, bound.den) (key_at (low_keys grown) k)) → IsAtMostLow bound grown
each_low bound (dead_leaf mults) h = tt
each_low bound (whole_leaf proved) h = h 0 (omega arith)
each_low bound (stopped_leaf proved note) h = h 0 (omega arith)
each_low bound (waiting_leaf leaf) h = h 0 (omega arith)
each_low bound (grown_fork split note key first second) h =
    let both = length-append (low_keys first) (low_keys second) in (
      each_low bound first (λ k l. subst (IsAtMost (bound.num, bound.den)) (get_or_append_left (low_keys first) (low_keys second) (pos 0, pos 0) k l) (h k (omega arith))),
      each_low bound second (λ k l. subst (IsAtMost (bound.num, bound.den)) (get_or-append-add (low_keys first) (low_keys second) k (pos 0, pos 0)) (h (length (low_keys first) + k) (omega arith))),
    )

-- the key at a place of the list is some leaf's
pub some_low : (bound : Fraction) (grown : Grown) (k : ℕ) → k < length (low_keys grown)
    → bound.num *ℤ (key_at (low_keys grown) k).1 ≡ (key_at (low_keys grown) k).0 *ℤ bound.den → IsOfLow bound grown
some_low bound (dead_leaf mults) k l h = absurd (omega arith)
some_low bound (whole_leaf proved) k l h =
    let first : k ≡ 0 = omega arith in subst (λ (i : ℕ). bound.num *ℤ (key_at (proved_key proved ∷ []) i).1 ≡ (key_at (proved_key proved ∷ []) i).0 *ℤ bound.den) first h
some_low bound (stopped_leaf proved note) k l h =
    let first : k ≡ 0 = omega arith in subst (λ (i : ℕ). bound.num *ℤ (key_at (proved_key proved ∷ []) i).1 ≡ (key_at (proved_key proved ∷ []) i).0 *ℤ bound.den) first h
some_low bound (waiting_leaf leaf) k l h =
    let first : k ≡ 0 = omega arith in subst (λ (i : ℕ). bound.num *ℤ (key_at (proved_key leaf.proved ∷ []) i).1 ≡ (key_at (proved_key leaf.proved ∷ []) i).0 *ℤ bound.den) first h
some_low bound (grown_fork split note key first second) k l h =
    let both = length-append (low_keys first) (low_keys second) in
    let P : ℤ × ℤ → Type 0 = λ key. bound.num *ℤ key.1 ≡ key.0 *ℤ bound.den in
    ⊎_elim
    (λ (t : k < length (low_keys first)). inl (some_low bound first k t (subst P (get_or_append_left (low_keys first) (low_keys second) (pos 0, pos 0) k t) h)))
    (λ (t : length (low_keys first) ≤ k).
    let place : k ≡ length (low_keys first) + (k - length (low_keys first)) = omega arith in
    inr (some_low bound second (k - length (low_keys first)) (omega arith)
    (subst P (ap (λ (i : ℕ). key_at (low_keys first ++ low_keys second) i) place ∙ get_or-append-add (low_keys first) (low_keys second) (k - length (low_keys first)) (pos 0, pos 0)) h)))
    (cases_lt k (length (low_keys first)))

-- ---- the least bound

no_append : (xs ys : List (ℤ × ℤ)) → xs ++ ys ≡ [] → (xs ≡ []) × (ys ≡ [])
no_append [] ys e = (refl, e)
no_append (x ∷ xs) ys e = cc

none_low : (cost : Option Fraction) (grown : Grown) → low_keys grown ≡ [] → has_low (tree_of (noted_of cost grown)) ≡ false
none_low cost (dead_leaf mults) e = refl
none_low cost (whole_leaf proved) e = cc
none_low cost (stopped_leaf proved note) e = cc
none_low cost (waiting_leaf leaf) e = cc
none_low cost (grown_fork split note key first second) e =
    let both = no_append (low_keys first) (low_keys second) e in
    let one = none_low cost first both.0 in
    let two = none_low cost second both.1 in
    ap (λ (b : Bool). b || has_low (tree_of (noted_of cost second))) one ∙ two

pub least_of_leaves : (road : Road) (cost : Option Fraction) (grown : Grown) (box : BoxRange) (bound : Option Fraction) → IsGoodNode road cost grown box
    → IsLeastKey grown bound → IsLeastOfLeaves road (tree_of (noted_of cost grown)) box bound
least_of_leaves road cost grown box None good h = none_low cost grown h
least_of_leaves road cost grown box (Some bound) good h =
    (h.lowest, at_most_leaves road cost bound grown box good h.at_most, of_some_leaf road cost bound grown box good h.one)

-- the bound of the first least key
pub least_key : (grown : Grown) (keys : List (ℤ × ℤ)) (at : ℕ) (bound : Fraction) → keys ≡ low_keys grown → All IsKey keys → IsFirstLeast keys at
    → IsLowest bound → HasValue bound (key_at keys at).0 (key_at keys at).1 → IsLeastKey grown (Some bound)
least_key grown keys at bound e all least lowest v =
    let key = key_at keys at in
    let same : bound.num *ℤ key.1 ≡ key.0 *ℤ bound.den = v.same in
    let scale : pos 1 ≤ℤ key.1 = (All-get_or IsKey keys at (pos 0, pos 0) least.within all).scale.from_one in
    let each : (k : ℕ) → k < length keys → IsAtMost (bound.num, bound.den) (key_at keys k) =
    λ k l. at_most_along (bound.num, bound.den) key (key_at keys k) lowest.positive scale (All-get_or IsKey keys k (pos 0, pos 0) l all).scale.from_one
    (omega (arith, ints, same)) (least.least k l) in
    record {
      lowest = lowest;
      key = key_of_value bound key.0 key.1 lowest v (All-get_or IsKey keys at (pos 0, pos 0) least.within all);
      at_most = each_low bound grown (subst (λ (xs : List (ℤ × ℤ)). (k : ℕ) → k < length xs → IsAtMost (bound.num, bound.den) (key_at xs k)) e each);
      one = some_low bound grown at (subst (λ (xs : List (ℤ × ℤ)). at < length xs) e least.within)
          (subst (λ (xs : List (ℤ × ℤ)). bound.num *ℤ (key_at xs at).1 ≡ (key_at xs at).0 *ℤ bound.den) e same);
    }

-- what is proved of leaves are keys
pub low_keys_all : (grown : Grown) → AreKeys grown → All IsKey (low_keys grown)
low_keys_all (dead_leaf mults) h = All-nil IsKey
low_keys_all (whole_leaf proved) h = All-cons IsKey (proved_key proved) [] h (All-nil IsKey)
low_keys_all (stopped_leaf proved note) h = All-cons IsKey (proved_key proved) [] h (All-nil IsKey)
low_keys_all (waiting_leaf leaf) h = All-cons IsKey (proved_key leaf.proved) [] h (All-nil IsKey)
low_keys_all (grown_fork split note key first second) h =
    All-append IsKey (low_keys first) (low_keys second) (low_keys_all first h.0) (low_keys_all second h.1)

pub key_there : (keys : List (ℤ × ℤ)) (at : ℕ) (key : ℤ × ℤ) → All IsKey keys → IsFirstLeast keys at → key ≡ get_or keys at key → IsKey key
key_there keys at key all least e = subst IsKey (sym e) (All-get_or IsKey keys at key least.within all)

pub least_fraction : (keys : List (ℤ × ℤ)) (at : ℕ) (key : ℤ × ℤ) (bound : Fraction) → IsFirstLeast keys at → key ≡ get_or keys at key
    → IsLowest bound → HasValue bound key.0 key.1 → IsLeastFraction keys bound
least_fraction keys at key bound least e lowest v =
    let same : key ≡ key_at keys at = e ∙ get_or_default keys at key (pos 0, pos 0) least.within in
    record { at = at; least = least; lowest = lowest; value = subst (λ (k : ℤ × ℤ). HasValue bound k.0 k.1) same v }

pub no_keys : (keys : List (ℤ × ℤ)) → length keys ≡ 0 → keys ≡ []
no_keys [] e = refl
no_keys (key ∷ keys) e = absurd (omega arith)

pub least_key_of : (grown : Grown) (keys : List (ℤ × ℤ)) (bound : Option Fraction) → AreKeys grown → keys ≡ low_keys grown
    → MatchOption bound (keys ≡ []) (λ f. IsLeastFraction keys f) → IsLeastKey grown bound
least_key_of grown keys None all e h = sym e ∙ h
least_key_of grown keys (Some bound) all e h =
    least_key grown keys h.at bound e (subst (λ (ks : List (ℤ × ℤ)). All IsKey ks) (sym e) (low_keys_all grown all)) h.least h.lowest h.value

pub low_all_of : (grown : Grown) (keys : List (ℤ × ℤ)) → keys ≡ low_keys grown → AreKeys grown → All IsKey keys
low_all_of grown keys e h = subst (λ (ks : List (ℤ × ℤ)). All IsKey ks) (sym e) (low_keys_all grown h)
