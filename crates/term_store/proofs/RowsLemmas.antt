-- Rows in their order while one of them is kept apart, over plain lists.
use Rattle.std.proofs.Common.{ℕ, ◌⊎◌, inl, inr, ◌≡◌, ◌∙◌, ◌<◌, ◌≤◌, ◌≢◌, ◌+◌, List, [], ◌∷◌, ◌++◌, length, get_or, set, take, map, min, sym, ap, subst, arith}
use Rattle.std.proofs.lemmas.List.{set-set, set-get_or, map-set, take_more_set, get_or-map, get_or-take, get_or-set_same, get_or-set_other, length-set, length-map, length-take}
use Rattle.std.proofs.lemmas.List.Edits.{swap_is, length-swap}
use Rattle.std.proofs.lemmas.List.Elements.{All-set, All-push, All-weaker}
use Rattle.std.proofs.lemmas.Bool.{cases_eq}
use Rattle.std.proofs.Math.Seq.{take-set-lt}
use Rattle.std.specs.List.{All, swap}
use Rattle.term_store.specs.HeldRow.{HeldRow}
use Rattle.term_store.specs.HeldRows.{HeldRows, row_at, with_row, AllFit, KeepsWidth}
use Rattle.term_store.specs.inside.Lending.{seen, AllHaveRoom, IsInOrder}

module _ {X : Type 0} where
  -- what was taken out of a place and is put there again leaves the list as it was
  pub put_again : (xs : List X) (k : ℕ) (x y z : X) → y ≡ z → z ≡ get_or xs k z → set (set xs k x) k y ≡ xs
  put_again xs k x y z e at = set-set xs k x y ∙ (ap (set xs k) (e ∙ at) ∙ set-get_or xs k z)

  -- a write at the place of the row kept apart is a write to the rows in their order
  write_apart : (xs ys : List X) (k : ℕ) (y w : X) → set ys k y ≡ xs → set ys k w ≡ set xs k w
  write_apart xs ys k y w e = sym (set-set ys k y w) ∙ ap (λ zs. set zs k w) e

  -- the row that is kept apart is the one of its place
  kept_is : (xs ys : List X) (k : ℕ) (y d : X) → k < length ys → set ys k y ≡ xs → get_or xs k d ≡ y
  kept_is xs ys k y d within e = ap (λ zs. get_or zs k d) (sym e) ∙ get_or-set_same ys k y d within

  -- the other rows are those of their places
  other_is : (xs ys : List X) (i k : ℕ) (y d : X) → i ≢ k → set ys k y ≡ xs → get_or ys i d ≡ get_or xs i d
  other_is xs ys i k y d differ e = sym (get_or-set_other ys k i y d differ) ∙ ap (λ zs. get_or zs i d) e

  -- what is seen of a store, by its parts
  abbrev made : List (List X) → ℕ → ℕ → HeldRows X
  made rows room width = record { rows = rows; room = room; width = width }

  same_store : (s t : HeldRows X) → s.rows ≡ t.rows → s.room ≡ t.room → s.width ≡ t.width → s ≡ t
  same_store s t rows room width =
      ap (λ x. made x s.room s.width) rows ∙ (ap (λ x. made t.rows x s.width) room ∙ ap (λ x. made t.rows t.room x) width)

  -- fewer terms fit too
  still_wide : (width r : ℕ) (xs : List (HeldRow X)) → AllHaveRoom width xs → AllHaveRoom (min width r) xs
  still_wide width r xs all k d within = omega (arith, all k d within)

  -- a write to a row in use
  write_in_use : (n : ℕ) (xs : List (HeldRow X)) (k : ℕ) (w : HeldRow X) → k < n
      → take n (map (λ r. r.terms) (set xs k w)) ≡ set (take n (map (λ r. r.terms) xs)) k w.terms
  write_in_use n xs k w within =
      ap (take n) (map-set (λ r. r.terms) xs k w) ∙ take-set-lt n (map (λ r. r.terms) xs) k w.terms within

  -- a row in use is one of the first rows, and of the list
  is_in_use : (n : ℕ) (xs : List (HeldRow X)) (i : ℕ) → i < length (take n (map (λ r. r.terms) xs)) → (i < n) × (i < length xs)
  is_in_use n xs i within =
      let e : length (take n (map (λ r. r.terms) xs)) ≡ min n (length xs) = length-take n (map (λ r. r.terms) xs) ∙ ap (min n) (length-map xs (λ r. r.terms)) in
      let l : i < min n (length xs) = rw (sym e) within in
      (omega (arith, l), omega (arith, l))

  -- the terms of a row in use
  terms_in_use : (n : ℕ) (xs : List (HeldRow X)) (i : ℕ) (d : HeldRow X) → i < n → i < length xs
      → get_or (take n (map (λ r. r.terms) xs)) i [] ≡ (get_or xs i d).terms
  terms_in_use n xs i d used within = get_or-take n (map (λ r. r.terms) xs) i [] used ∙ get_or-map (λ r. r.terms) xs i d [] within

module _ {X : Type 0} where
  -- what two writes leave, where the first is at the same place or the same
  swapped_twice : (ys : List X) (i k : ℕ) (y : X) → set (set ys i (get_or ys k y)) k y ≡ set (set ys i (get_or (set ys i y) k y)) k y
  swapped_twice ys i k y = cases (cases_eq k i)
    where
      cases : (k ≡ i) ⊎ (k ≢ i) → set (set ys i (get_or ys k y)) k y ≡ set (set ys i (get_or (set ys i y) k y)) k y
      cases (inl same) = rw same (set-set ys i _ y ∙ sym (set-set ys i _ y))
      cases (inr differ) = ap (λ z. set (set ys i z) k y) (sym (get_or-set_other ys i k y y differ))

  -- the rows exchanged, and the one kept apart put at its new place
  swap_apart : (ys : List X) (i k : ℕ) (y : X) → i < length ys → k < length ys → set (swap ys i k) k y ≡ swap (set ys i y) i k
  swap_apart ys i k y i-in k-in =
      ap (λ zs. set zs k y) (sym (swap_is ys i k y i-in k-in))
      ∙ (set-set (set ys i (get_or ys k y)) k (get_or ys i y) y
      ∙ (swapped_twice ys i k y
      ∙ (ap (λ zs. set zs k y) (sym (set-set ys i y (get_or (set ys i y) k y)))
      ∙ (ap (set (set (set ys i y) i (get_or (set ys i y) k y)) k) (sym (get_or-set_same ys i y y i-in))
      ∙ swap_is (set ys i y) i k y (subst (λ (m : ℕ). i < m) (sym (length-set ys i y)) i-in) (subst (λ (m : ℕ). k < m) (sym (length-set ys i y)) k-in)))))

  -- two rows in use exchanged
  swap_in_use : (n : ℕ) (xs : List (HeldRow X)) (i k : ℕ) (d : HeldRow X) → i < n → k < n → i < length xs → k < length xs
      → take n (map (λ r. r.terms) (swap xs i k)) ≡ swap (take n (map (λ r. r.terms) xs)) i k
  swap_in_use n xs i k d i-used k-used i-in k-in =
      ap (λ (l : List (HeldRow X)). take n (map (λ (r : HeldRow X). r.terms) l)) (sym (swap_is xs i k d i-in k-in))
      ∙ (write_in_use n (set xs i (get_or xs k d)) k (get_or xs i d) k-used
      ∙ (ap (λ l. set l k (get_or xs i d).terms) (write_in_use n xs i (get_or xs k d) i-used)
      ∙ (ap (λ z. set (set rows i z) k (get_or xs i d).terms) (sym (terms_in_use n xs k d k-used k-in))
      ∙ (ap (set (set rows i (get_or rows k [])) k) (sym (terms_in_use n xs i d i-used i-in))
      ∙ swap_is rows i k [] (within i i-used i-in) (within k k-used k-in)))))
    where
      rows : List (List X)
      rows = take n (map (λ (r : HeldRow X). r.terms) xs)

      within : (j : ℕ) → j < n → j < length xs → j < length rows
      within j used in-list =
          let e : length rows ≡ min n (length xs) = length-take n (map (λ r. r.terms) xs) ∙ ap (min n) (length-map xs (λ r. r.terms)) in
          omega (arith, e, used, in-list)

  -- an exchange keeps that all rows are wide
  swap_wide : (width : ℕ) (ys zs : List (HeldRow X)) (i k : ℕ) (d : HeldRow X) → i < length ys → k < length ys → zs ≡ swap ys i k
      → AllHaveRoom width ys → AllHaveRoom width zs
  swap_wide width ys zs i k d i-in k-in e all =
      subst (λ (l : List (HeldRow X)). AllHaveRoom width l) (swap_is ys i k d i-in k-in ∙ sym e)
      (All-set (λ (r : HeldRow X). width ≤ r.room) (set ys i (get_or ys k d)) k (get_or ys i d) (all i d i-in)
      (All-set (λ (r : HeldRow X). width ≤ r.room) ys i (get_or ys k d) (all k d k-in) all))

module _ {X : Type 0} (width : ℕ) (xs ys : List (HeldRow X)) (a b : HeldRow X) (all : AllHaveRoom width xs)
    (rooms : (v : ℕ) → v ≤ a.room → AllHaveRoom v xs → (v ≤ b.room) × AllHaveRoom v ys) where
  -- the row that is kept apart now, and all that lie in the list, are as wide as the store was
  pub wide : (min width a.room ≤ b.room) × AllHaveRoom (min width a.room) ys
  wide = rooms (min width a.room) (omega arith) (still_wide width a.room xs all)

  -- the store is in order again
  pub in_order_again : (n i q u : ℕ) → n ≤ length xs → i < length xs → length ys ≡ length xs → q ≡ i → u ≡ min width a.room → IsInOrder n u ys q
  in_order_again n i q u count within len place least =
      (omega (arith, count, len), ((λ _. omega (arith, within, len, place)), subst (λ v. AllHaveRoom v ys) (sym least) wide.1))

  -- so it is after an exchange
  pub in_order_after_swap : (zs : List (HeldRow X)) (n i k u : ℕ) → n ≤ length xs → i < length xs → k < length xs → length ys ≡ length xs
      → zs ≡ swap ys i k → u ≡ min width a.room → IsInOrder n u zs k
  in_order_after_swap zs n i k u count i-in k-in len e least =
      let same : length zs ≡ length ys = ap length e ∙ length-swap ys i k in (
        omega (arith, count, len, same),
        (
          (λ _. omega (arith, k-in, len, same)),
          subst (λ v. AllHaveRoom v zs) (sym least)
              (swap_wide (min width a.room) ys zs i k b (omega (arith, i-in, len)) (omega (arith, k-in, len)) e wide.1),
        ),
      )

module _ {X : Type 0} (s : HeldRows X) (n width : ℕ) (xs : List (HeldRow X)) (p : ℕ) (a : HeldRow X) (is : seen n width xs p a ≡ s) where
  -- a row that the caller may name
  module _ (i : ℕ) (within : i < length s.rows) where
    pub named : (i < n) × (i < length xs)
    named =
        let at : i < length (take n (map (λ r. r.terms) (set xs p a))) = subst (λ (t : HeldRows X). i < length t.rows) (sym is) within in
        let both = is_in_use n (set xs p a) i at in
        (both.0, subst (λ (k : ℕ). i < k) (length-set xs p a) both.1)

    -- the terms of a row
    pub terms_at : (d : HeldRow X) → row_at s i ≡ (get_or (set xs p a) i d).terms
    terms_at d =
        ap (λ (t : HeldRows X). row_at t i) (sym is)
        ∙ terms_in_use n (set xs p a) i d named.0 (subst (λ (k : ℕ). i < k) (sym (length-set xs p a)) named.1)

  -- row i is kept apart now: b, with ys as the list
  module _ (i : ℕ) (within : i < length s.rows) (ys : List (HeldRow X)) (b : HeldRow X) (order : set ys i b ≡ set xs p a) (len : length ys ≡ length xs) where
    pub apart_terms : b.terms ≡ row_at s i
    apart_terms =
        ap (λ (r : HeldRow X). r.terms) (sym (kept_is (set xs p a) ys i b b (subst (λ (k : ℕ). i < k) (sym len) (named i within).1) order))
        ∙ sym (terms_at i within b)

    pub other_terms : (j : ℕ) (d : HeldRow X) → j < length s.rows → j ≢ i → (get_or ys j d).terms ≡ row_at s j
    other_terms j d in-rows differ =
        ap (λ (r : HeldRow X). r.terms) (other_is (set xs p a) ys j i b d differ order) ∙ sym (terms_at j in-rows d)

    -- whatever is left behind the view is the row
    pub after_loan : (q u : ℕ) (w : HeldRow X) → q ≡ i → u ≡ min width a.room → seen n u ys q w ≡ with_row s i w
    after_loan q u w place least = same_store _ _
        (ap (λ k. take n (map (λ (r : HeldRow X). r.terms) (set ys k w))) place
        ∙ (ap (λ zs. take n (map (λ (r : HeldRow X). r.terms) zs)) (write_apart (set xs p a) ys i b w order)
        ∙ (write_in_use n (set xs p a) i w (named i within).0 ∙ ap (λ (t : HeldRows X). set t.rows i w.terms) is)))
        (len ∙ ap (λ (t : HeldRows X). t.room) is)
        (ap (λ v. min v w.room) (least ∙ ap (λ (t : HeldRows X). t.width) is))

  -- where a row is free, the list has a place behind those in use
  pub free_row : n ≤ length xs → length s.rows < s.room → n < length xs
  free_row count free =
      let long : length (map (λ (r : HeldRow X). r.terms) (set xs p a)) ≡ length xs = length-map (set xs p a) (λ r. r.terms) ∙ length-set xs p a in
      let rows : length s.rows ≡ min n (length (map (λ (r : HeldRow X). r.terms) (set xs p a))) =
      ap (λ (t : HeldRows X). length t.rows) (sym is) ∙ length-take n (map (λ r. r.terms) (set xs p a)) in
      let room : s.room ≡ length xs = ap (λ (t : HeldRows X). t.room) (sym is) in
      omega (arith, long, rows, room, count, free)

  -- a row that was written behind those in use is the last one
  pub after_push : (ys : List (HeldRow X)) (b w : HeldRow X) (q : ℕ) → n ≤ length xs → length s.rows < s.room
      → set ys n b ≡ set xs p a → q ≡ n
      → take (n + 1) (map (λ r. r.terms) (set ys q w)) ≡ s.rows ++ w.terms ∷ []
  after_push ys b w q count free order place =
      ap (λ k. take (n + 1) (map (λ (r : HeldRow X). r.terms) (set ys k w))) place
      ∙ (ap (λ zs. take (n + 1) (map (λ (r : HeldRow X). r.terms) zs)) (write_apart (set xs p a) ys n b w order)
      ∙ (ap (take (n + 1)) (map-set (λ (r : HeldRow X). r.terms) (set xs p a) n w)
      ∙ (take_more_set (map (λ (r : HeldRow X). r.terms) (set xs p a)) n w.terms free_place
      ∙ ap (λ (t : HeldRows X). t.rows ++ w.terms ∷ []) is)))
    where
      long : length (map (λ (r : HeldRow X). r.terms) (set xs p a)) ≡ length xs
      long = length-map (set xs p a) (λ r. r.terms) ∙ length-set xs p a

      free_place : n < length (map (λ (r : HeldRow X). r.terms) (set xs p a))
      free_place = subst (λ (k : ℕ). n < k) (sym long) (free_row count free)

  -- the width stays where the row kept apart is wide enough
  pub same_width : (u r : ℕ) → u ≡ min width a.room → min width a.room ≤ r → min u r ≡ s.width
  same_width u r least fits =
      let own : min width a.room ≡ s.width = ap (λ (t : HeldRows X). t.width) is in
      omega (arith, own, least, fits)

  -- rows i and k are exchanged, and row i lies at its new place
  pub after_swap : (i k : ℕ) (ys zs : List (HeldRow X)) (b : HeldRow X) → i < length s.rows → k < length s.rows
      → set ys i b ≡ set xs p a → length ys ≡ length xs → zs ≡ swap ys i k
      → take n (map (λ r. r.terms) (set zs k b)) ≡ swap s.rows i k
  after_swap i k ys zs b i-in k-in order len e =
      let i-fits : i < length ys = subst (λ (m : ℕ). i < m) (sym len) (named i i-in).1 in
      let k-fits : k < length ys = subst (λ (m : ℕ). k < m) (sym len) (named k k-in).1 in
      ap (λ (l : List (HeldRow X)). take n (map (λ (r : HeldRow X). r.terms) (set l k b))) e
      ∙ (ap (λ (l : List (HeldRow X)). take n (map (λ (r : HeldRow X). r.terms) l)) (swap_apart ys i k b i-fits k-fits)
      ∙ (ap (λ (l : List (HeldRow X)). take n (map (λ (r : HeldRow X). r.terms) (swap l i k))) order
      ∙ (swap_in_use n (set xs p a) i k b (named i i-in).0 (named k k-in).0
      (subst (λ (m : ℕ). i < m) (sym (length-set xs p a)) (named i i-in).1)
      (subst (λ (m : ℕ). k < m) (sym (length-set xs p a)) (named k k-in).1)
      ∙ ap (λ (t : HeldRows X). swap t.rows i k) is)))

module _ {X : Type 0} (s : HeldRows X) where
  -- a view with room for the width
  pub keeps_width : (i room : ℕ) → s.width ≤ room → KeepsWidth s i room
  keeps_width i room wide = record {
    width = λ w e. omega (arith, wide, e);
    fit = λ all w e short.
        All-set (λ (row : List X). length row ≤ min s.width w.room) s.rows i w.terms (omega (arith, wide, e, short))
        (All-weaker (λ (row : List X). length row ≤ s.width) (λ (row : List X). length row ≤ min s.width w.room) (λ row fits. omega (arith, wide, e, fits)) s.rows all);
  }

  module _ (t : HeldRows X) (same : t.width ≡ s.width) (all : AllFit s) where
    fit_from : (rows : List (List X)) → t.rows ≡ rows → All (λ (row : List X). length row ≤ s.width) rows → AllFit t
    fit_from rows e fits =
        subst (λ (l : List (List X)). All (λ (row : List X). length row ≤ t.width) l) (sym e)
        (All-weaker (λ (row : List X). length row ≤ s.width) (λ (row : List X). length row ≤ t.width) (λ row f. omega (arith, same, f)) rows fits)

    -- a row that fits was pushed
    pub fit_after_push : (terms : List X) → t.rows ≡ s.rows ++ terms ∷ [] → length terms ≤ s.width → AllFit t
    fit_after_push terms e fits =
        fit_from (s.rows ++ terms ∷ []) e (All-push (λ (row : List X). length row ≤ s.width) s.rows terms all fits)

    -- two rows were exchanged
    pub fit_after_swap : (i k : ℕ) → t.rows ≡ swap s.rows i k → i < length s.rows → k < length s.rows → AllFit t
    fit_after_swap i k e i-in k-in =
        fit_from (set (set s.rows i (get_or s.rows k [])) k (get_or s.rows i [])) (e ∙ sym (swap_is s.rows i k [] i-in k-in))
        (All-set (λ (row : List X). length row ≤ s.width) (set s.rows i (get_or s.rows k [])) k (get_or s.rows i []) (all i [] i-in)
        (All-set (λ (row : List X). length row ≤ s.width) s.rows i (get_or s.rows k []) (all k [] k-in) all))
