-- The sum of a row walked term by term.
use Rattle.std.proofs.Common.{◌≡◌, ℕ, zero, suc, ◌+◌, ◌-◌, ◌≤◌, ◌<◌, ◌⊎◌, List, [], ◌∷◌, length, get_or, drop, arith, ap, sym, ◌∙◌, refl, ⊎_elim, Bool, true, false, cond}
use Rattle.std.specs.Prelude.{ℤ, pos, ◌≢◌, ◌+ℤ◌, ◌*ℤ◌}
use Rattle.std.proofs.lemmas.Int.{ints}
use Rattle.algebra.specs.Sums.{sum_to}
use Rattle.algebra.proofs.SumsLemmas.{sum_to_last}
use Rattle.term_store.specs.declared.term.Term.{Term}
use Rattle.sparse_rows.specs.Lines.{entry_of, IsLine}
use Rattle.sparse_rows.specs.Sums.{meaning_at, standing_at, share}
use Rattle.sparse_rows.proofs.LinesLemmas.{IsRest, rest_none, rest_taken, next_from, next_end, next_entry, line_from, none_left, same_or_not}

pub meaning_here : {A : Type 0} (f : A → ℤ) (xs : List A) (j : ℕ) (x : A) → j < length xs → x ≡ get_or xs j x → f x ≡ meaning_at f xs j
meaning_here f [] j x l e = absurd (omega arith)
meaning_here f (y ∷ ys) zero x l e = ap f e
meaning_here f (y ∷ ys) (suc j) x l e = meaning_here f ys j x (omega arith) e

-- a sum goes on over summands that are 0
pub sum_flat : (s : ℕ → ℤ) (from to : ℕ) → from ≤ to → ((j : ℕ) → from < j → j ≤ to → s j ≡ pos 0) → sum_to s to ≡ sum_to s from
sum_flat s from zero l h = let e : 0 ≡ from = omega arith in ap (sum_to s) e
sum_flat s from (suc to) l h = ⊎_elim
    (λ (e : from ≡ suc to). ap (sum_to s) (sym e))
    (λ (differ : from ≢ suc to).
    let before = sum_flat s from to (omega arith) (λ j low high. h j low (omega arith)) in
    let last = h (suc to) (omega arith) (omega arith) in
    omega (arith, ints))
    (cases from (suc to))
  where
    cases : (a b : ℕ) → (a ≡ b) ⊎ (a ≢ b)
    cases a b = grind arith

module _ {A : Type 0} (f : A → ℤ) (row : List (Term A)) (without : ℕ) (low high : List A) (at_high : List Bool) where
  abbrev s : ℕ → ℤ
  s = share f row without low high at_high

  pub share_none : (j : ℕ) → entry_of f row j ≡ pos 0 → share f row without low high at_high j ≡ pos 0
  share_none j e = ⊎_elim
      (λ (h : without ≡ j). grind arith)
      (λ (h : without ≢ j). other h ∙ (ap (λ x. x *ℤ standing_at f low high at_high j) e ∙ omega (arith, ints)))
      (same_or_not f without j)
    where
      other : without ≢ j → share f row without low high at_high j ≡ entry_of f row j *ℤ standing_at f low high at_high j
      other h = grind arith

  pub share_without : (j : ℕ) → j ≡ without → share f row without low high at_high j ≡ pos 0
  share_without j e = grind arith

  pub share_other : (j : ℕ) → without ≢ j → share f row without low high at_high j ≡ entry_of f row j *ℤ standing_at f low high at_high j
  share_other j h = grind arith

  -- the sum over the columns before the rest of the row from place a on
  pub record IsSummed (end a : ℕ) (total : ℤ) : Type 0 where
    pub from : ℕ
    pub first : 1 ≤ from
    pub left : IsRest f row a from end
    pub sum : total ≡ sum_to (share f row without low high at_high) (from - 1)

  pub summed_none : (end : ℕ) (total : ℤ) → IsLine f 1 end row → total ≡ pos 0 → IsSummed end 0 total
  summed_none end total line e = record { from = 1; first = omega arith; left = record { line = line; same = λ j l. refl }; sum = e }

  module _ (end a : ℕ) (total : ℤ) (h : IsSummed end a total) (t : Term A) (l : a < length row) (e : t ≡ get_or row a t) where
    from_first : h.from ≤ t.column
    from_first = next_from f row a h.from end h.left t l e

    pub column_first : 1 ≤ t.column
    column_first = let p = h.first in let q = from_first in omega arith

    pub column_end : t.column < end
    column_end = next_end f row a h.from end h.left t l e

    before : sum_to s (t.column - 1) ≡ sum_to s (h.from - 1)
    before = let p = h.first in let q = from_first in
        sum_flat s (h.from - 1) (t.column - 1) (omega arith)
        (λ j x y. share_none j (rest_none f row a h.from end t.column h.left (line_from f row a h.from end h.left t l e t.column (omega arith)) j (omega arith) (omega arith)))

    up_to : sum_to s t.column ≡ total +ℤ s t.column
    up_to = let p = column_first in
        sum_to_last s t.column (t.column - 1) (omega arith) ∙ ap (λ x. x +ℤ s t.column) (before ∙ sym h.sum)

    pub summed_more : (next : ℤ) → next ≡ total +ℤ s t.column → IsSummed end (a + 1) next
    summed_more next n = record {
      from = t.column + 1;
      first = omega arith;
      left = rest_taken f row a h.from end h.left t l e;
      sum = n ∙ (sym up_to ∙ ap (sum_to s) (later t.column));
    }
      where
        later : (k : ℕ) → k ≡ k + 1 - 1
        later k = omega arith

    pub summed_without : t.column ≡ without → IsSummed end (a + 1) total
    summed_without same = summed_more total (let z = share_without t.column same in omega (arith, ints))

    pub summed_nothing : (x : ℤ) → share f row without low high at_high t.column ≡ x *ℤ pos 0 → IsSummed end (a + 1) total
    summed_nothing x e = summed_more total (let n : x *ℤ pos 0 ≡ pos 0 = omega (arith, ints) in omega (arith, ints))

    pub share_product : without ≢ t.column → share f row without low high at_high t.column ≡ f t.value *ℤ standing_at f low high at_high t.column
    share_product differ = share_other t.column differ ∙ ap (λ x. x *ℤ standing_at f low high at_high t.column) (next_entry f row a h.from end h.left t l e)

    pub summed_sum : sum_to (share f row without low high at_high) t.column ≡ total +ℤ share f row without low high at_high t.column
    summed_sum = up_to

  pub summed_all : (end a : ℕ) (total : ℤ) → IsSummed end a total → length row ≤ a → total ≡ sum_to (share f row without low high at_high) (end - 1)
  summed_all end a total h l =
      let p = h.first in
      let q = bound h.from (drop a row) h.left.line in
      h.sum ∙ sym (sum_flat s (h.from - 1) (end - 1) (omega arith)
      (λ j x y. share_none j (none_left f row a h.from end j h.left l (omega arith))))
    where
      bound : (from : ℕ) (ts : List (Term A)) → IsLine f from end ts → from ≤ end
      bound from [] u = u
      bound from (v ∷ us) u = let x = u.0 in let more = bound (v.column + 1) us u.1.1 in omega arith

-- the bound at which a column stands
pub standing_high : {A : Type 0} (f : A → ℤ) (low high : List A) (at_high : List Bool) (j : ℕ) (x : A) → j < length high → x ≡ get_or high j x → get_or at_high j false ≡ true
    → f x ≡ standing_at f low high at_high j
standing_high f low high at_high j x l e b = meaning_here f high j x l e ∙ sym (ap (λ c. cond c (meaning_at f high j) (meaning_at f low j)) b)

pub standing_low : {A : Type 0} (f : A → ℤ) (low high : List A) (at_high : List Bool) (j : ℕ) (x : A) → j < length low → x ≡ get_or low j x → get_or at_high j false ≡ false
    → f x ≡ standing_at f low high at_high j
standing_low f low high at_high j x l e b = meaning_here f low j x l e ∙ sym (ap (λ c. cond c (meaning_at f high j) (meaning_at f low j)) b)
