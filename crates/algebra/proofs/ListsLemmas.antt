-- The laws of `list_to` and `flat_to`: their lengths, their entries by number, and what maps and sums make of them.
use Rattle.std.proofs.Common.{◌≡◌, ℕ, zero, suc, ◌+◌, ◌-◌, ◌*◌, ◌<◌, ◌≤◌, List, [], ◌∷◌, ◌++◌, length, map, get_or, arith, ap, sym, ◌∙◌, refl, subst, ◌⊎◌, inl, inr, ⊎_elim}
use Rattle.std.proofs.lemmas.Bool.{cases_lt}
use Rattle.std.proofs.lemmas.List.{length-append, get_or_append_left, get_or-append-add, get_or-append_right, map-append}
use Rattle.algebra.specs.Lists.{list_to, flat_to, total_of, IsEntry}
use Rattle.algebra.specs.Totals.{total_to}
use Rattle.algebra.specs.Numbered.{numbered}
use Rattle.algebra.proofs.TotalsLemmas.{total_to_front}

module _ {A : Type 0} where
  -- ---- lengths

  pub length-list_to : (f : ℕ → A) (n : ℕ) → length (list_to f n) ≡ n
  length-list_to f zero = refl
  length-list_to f (suc n) = omega (arith, length-append (list_to f n) (f (suc n) ∷ []), length-list_to f n)

  pub length-flat_to : (f : ℕ → List A) (n w : ℕ) → ((k : ℕ) → 1 ≤ k → k ≤ n → length (f k) ≡ w) → length (flat_to f n) ≡ n * w
  length-flat_to f zero w h = omega arith
  length-flat_to f (suc n) w h =
      let before = length-flat_to f n w (λ k low high. h k low (omega arith)) in
      let last = h (suc n) (omega arith) (omega arith) in
      omega (arith, length-append (flat_to f n) (f (suc n)))

  -- ---- entries

  pub entry_left : (xs ys : List A) (j : ℕ) (x : A) → IsEntry xs j x → IsEntry (xs ++ ys) j x
  entry_left xs ys j x e = record {
    before = e.before;
    number = e.number;
    within = omega (arith, length-append xs ys, e.within);
    is_entry = get_or_append_left xs ys x e.before e.within ∙ e.is_entry;
  }

  pub entry_right : (xs ys : List A) (j : ℕ) (x : A) → IsEntry ys j x → IsEntry (xs ++ ys) (length xs + j) x
  entry_right xs ys j x e = record {
    before = length xs + e.before;
    number = omega (arith, e.number);
    within = omega (arith, length-append xs ys, e.within);
    is_entry = get_or-append-add xs ys e.before x ∙ e.is_entry;
  }

  pub entry_here : (x : A) (xs : List A) → IsEntry (x ∷ xs) 1 x
  entry_here x xs = record { before = 0; number = refl; within = omega arith; is_entry = refl }

  pub entry_behind : (y : A) (xs : List A) (j : ℕ) (x : A) → IsEntry xs j x → IsEntry (y ∷ xs) (suc j) x
  entry_behind y xs j x e = record { before = suc e.before; number = ap suc e.number; within = omega (arith, e.within); is_entry = e.is_entry }

  pub entry_at : (xs : List A) (j k : ℕ) (x : A) → j ≡ k → IsEntry xs j x → IsEntry xs k x
  entry_at xs j k x e h = subst (λ n. IsEntry xs n x) e h

  pub list_to_entry : (f : ℕ → A) (n k : ℕ) → 1 ≤ k → k ≤ n → IsEntry (list_to f n) k (f k)
  list_to_entry f zero k low high = absurd (omega arith)
  list_to_entry f (suc n) k low high =
      ⊎_elim
      (λ (l : k < suc n). entry_left (list_to f n) (f (suc n) ∷ []) k (f k) (list_to_entry f n k low (omega arith)))
      (λ (l : suc n ≤ k).
      let e : suc n ≡ k = omega arith in
      let here = entry_right (list_to f n) (f (suc n) ∷ []) 1 (f (suc n)) (entry_here (f (suc n)) []) in
      subst (λ j. IsEntry (list_to f (suc n)) j (f j)) e
      (entry_at (list_to f (suc n)) (length (list_to f n) + 1) (suc n) (f (suc n)) (omega (arith, length-list_to f n)) here))
      (cases_lt k (suc n))

  pub flat_to_entry : (f : ℕ → List A) (n w k p : ℕ) (x : A) → ((j : ℕ) → 1 ≤ j → j ≤ n → length (f j) ≡ w)
      → 1 ≤ k → k ≤ n → IsEntry (f k) p x → IsEntry (flat_to f n) ((k - 1) * w + p) x
  flat_to_entry f zero w k p x h low high e = absurd (omega arith)
  flat_to_entry f (suc n) w k p x h low high e =
      ⊎_elim
      (λ (l : k < suc n).
      entry_left (flat_to f n) (f (suc n)) ((k - 1) * w + p) x
      (flat_to_entry f n w k p x (λ j a b. h j a (omega arith)) low (omega arith) e))
      (λ (l : suc n ≤ k).
      let same : k ≡ suc n = omega arith in
      let last : IsEntry (f (suc n)) p x = subst (λ j. IsEntry (f j) p x) same e in
      let size = length-flat_to f n w (λ j a b. h j a (omega arith)) in
      let less : k - 1 ≡ n = omega arith in
      let place : length (flat_to f n) + p ≡ (k - 1) * w + p = omega (arith, ap (λ j. j * w) less) in
      entry_at (flat_to f (suc n)) (length (flat_to f n) + p) ((k - 1) * w + p) x place
      (entry_right (flat_to f n) (f (suc n)) p x last))
      (cases_lt k (suc n))

  -- where an entry of two lists one behind the other stands
  pub entry_cases : (xs ys : List A) (j : ℕ) (x : A) → IsEntry (xs ++ ys) j x → IsEntry xs j x ⊎ ((p : ℕ) × ((j ≡ length xs + p) × IsEntry ys p x))
  entry_cases xs ys j x e =
      ⊎_elim
      (λ (l : e.before < length xs).
      inl (record {
        before = e.before;
        number = e.number;
        within = l;
        is_entry = sym (get_or_append_left xs ys x e.before l) ∙ e.is_entry;
      }))
      (λ (l : length xs ≤ e.before).
      inr (
        suc (e.before - length xs),
        (
          omega (arith, e.number),
          record {
            before = e.before - length xs;
            number = refl;
            within = omega (arith, length-append xs ys, e.within);
            is_entry = sym (get_or-append_right xs ys (length xs) e.before x refl l) ∙ e.is_entry;
          },
        ),
      ))
      (cases_lt e.before (length xs))

  pub entry_of_none : (j : ℕ) (x : A) → IsEntry [] j x → ⊥
  entry_of_none j x e = omega (arith, e.within)

  pub entry_of_one : (y : A) (j : ℕ) (x : A) → IsEntry (y ∷ []) j x → (j ≡ 1) × (y ≡ x)
  entry_of_one y j x e =
      let first : e.before ≡ 0 = omega (arith, e.within) in
      (omega (arith, e.number), ap (λ k. get_or (y ∷ []) k x) (sym first) ∙ e.is_entry)

  pub entry_of_list_to : (f : ℕ → A) (n j : ℕ) (x : A) → IsEntry (list_to f n) j x → (1 ≤ j) × ((j ≤ n) × (f j ≡ x))
  entry_of_list_to f zero j x e = absurd (entry_of_none j x e)
  entry_of_list_to f (suc n) j x e =
      ⊎_elim
      (λ (l : IsEntry (list_to f n) j x). let h = entry_of_list_to f n j x l in (h.0, (omega (arith, h.1.0), h.1.1)))
      (λ (r : (p : ℕ) × ((j ≡ length (list_to f n) + p) × IsEntry (f (suc n) ∷ []) p x)).
      let one = entry_of_one (f (suc n)) r.0 x r.1.1 in
      let same : suc n ≡ j = omega (arith, r.1.0, one.0, length-list_to f n) in
      (omega arith, (omega arith, subst (λ k. f k ≡ x) same one.1)))
      (entry_cases (list_to f n) (f (suc n) ∷ []) j x e)

  -- an entry of several lists of one length stands in one of them
  pub record IsEntryOf (f : ℕ → List A) (n w j : ℕ) (x : A) : Type 0 where
    pub list : ℕ
    pub place : ℕ
    pub from_one : 1 ≤ list
    pub at_most : list ≤ n
    pub number : j ≡ (list - 1) * w + place
    pub is_entry : IsEntry (f list) place x

  pub entry_of_flat_to : (f : ℕ → List A) (n w j : ℕ) (x : A) → ((k : ℕ) → 1 ≤ k → k ≤ n → length (f k) ≡ w) → IsEntry (flat_to f n) j x → IsEntryOf f n w j x
  entry_of_flat_to f zero w j x h e = absurd (entry_of_none j x e)
  entry_of_flat_to f (suc n) w j x h e =
      ⊎_elim
      (λ (l : IsEntry (flat_to f n) j x).
      let o = entry_of_flat_to f n w j x (λ k a b. h k a (omega arith)) l in
      record { list = o.list; place = o.place; from_one = o.from_one; at_most = omega (arith, o.at_most); number = o.number; is_entry = o.is_entry })
      (λ (r : (p : ℕ) × ((j ≡ length (flat_to f n) + p) × IsEntry (f (suc n)) p x)).
      let size = length-flat_to f n w (λ k a b. h k a (omega arith)) in
      let less : suc n - 1 ≡ n = omega arith in
      record {
        list = suc n;
        place = r.0;
        from_one = omega arith;
        at_most = omega arith;
        number = omega (arith, r.1.0, ap (λ k. k * w) less);
        is_entry = r.1.1;
      })
      (entry_cases (flat_to f n) (f (suc n)) j x e)

-- ---- maps

pub get_or-map_at : {A B : Type 0} (g : A → B) (xs : List A) (k : ℕ) (other : B) (x : A) → k < length xs → get_or (map g xs) k other ≡ g (get_or xs k x)
get_or-map_at g [] k other x l = absurd (omega arith)
get_or-map_at g (y ∷ xs) zero other x l = refl
get_or-map_at g (y ∷ xs) (suc k) other x l = get_or-map_at g xs k other x (omega arith)

module _ {A B : Type 0} where
  pub map-list_to : (g : A → B) (f : ℕ → A) (n : ℕ) → map g (list_to f n) ≡ list_to (λ k. g (f k)) n
  map-list_to g f zero = refl
  map-list_to g f (suc n) =
      map-append g (list_to f n) (f (suc n) ∷ []) ∙ ap (λ xs. xs ++ (g (f (suc n)) ∷ [])) (map-list_to g f n)

  pub map-flat_to : (g : A → B) (f : ℕ → List A) (n : ℕ) → map g (flat_to f n) ≡ flat_to (λ k. map g (f k)) n
  map-flat_to g f zero = refl
  map-flat_to g f (suc n) =
      map-append g (flat_to f n) (f (suc n)) ∙ ap (λ xs. xs ++ map g (f (suc n))) (map-flat_to g f n)

  -- ---- entries of maps and totals

  pub numbered-map_entry : (g : A → B) (other : B) (xs : List A) (j : ℕ) (x : A) → IsEntry xs j x → numbered other (map g xs) j ≡ g x
  numbered-map_entry g other xs j x e =
      let at : numbered other (map g xs) j ≡ numbered other (map g xs) (suc e.before) = ap (λ k. numbered other (map g xs) k) e.number in
      at ∙ (get_or-map_at g xs e.before other x e.within ∙ ap g e.is_entry)

module _ {A : Type 0} where
  pub total_of-append : (g : A → ℕ) (xs ys : List A) → total_of g (xs ++ ys) ≡ total_of g xs + total_of g ys
  total_of-append g [] ys = omega arith
  total_of-append g (x ∷ xs) ys = omega (arith, total_of-append g xs ys)

  pub total_of-list_to : (g : A → ℕ) (f : ℕ → A) (n : ℕ) → total_of g (list_to f n) ≡ total_to (λ k. g (f k)) n
  total_of-list_to g f zero = refl
  total_of-list_to g f (suc n) = omega (arith, total_of-append g (list_to f n) (f (suc n) ∷ []), total_of-list_to g f n)

  pub total_of-flat_to : (g : A → ℕ) (f : ℕ → List A) (n : ℕ) → total_of g (flat_to f n) ≡ total_to (λ k. total_of g (f k)) n
  total_of-flat_to g f zero = refl
  total_of-flat_to g f (suc n) = omega (arith, total_of-append g (flat_to f n) (f (suc n)), total_of-flat_to g f n)

  -- a total by numbers is one over the list's entries
  pub total_to_of : (f : ℕ → ℕ) (g : A → ℕ) (xs : List A) → ((j : ℕ) (x : A) → IsEntry xs j x → f j ≡ g x) → total_to f (length xs) ≡ total_of g xs
  total_to_of f g [] h = refl
  total_to_of f g (x ∷ xs) h =
      let first = h 1 x (entry_here x xs) in
      let rest = total_to_of (λ j. f (suc j)) g xs (λ j y e. h (suc j) y (entry_behind x xs j y e)) in
      omega (arith, total_to_front f (length xs))

  pub total_of-ext : (f g : A → ℕ) (xs : List A) → ((x : A) → f x ≡ g x) → total_of f xs ≡ total_of g xs
  total_of-ext f g [] h = refl
  total_of-ext f g (x ∷ xs) h = omega (arith, h x, total_of-ext f g xs h)
