-- Lines: their entries, a term put behind them, and two lines walked side by side.
use Rattle.std.proofs.Common.{◌≡◌, ℕ, zero, suc, ◌+◌, ◌≤◌, ◌<◌, ◌⊎◌, List, [], ◌∷◌, ◌++◌, length, get_or, drop, arith, ap, sym, ◌∙◌, refl, subst, ⊎_elim}
use Rattle.std.specs.Prelude.{ℤ, pos, ◌≢◌}
use Rattle.std.proofs.lemmas.List.{drop_all}
use Rattle.term_store.specs.declared.term.Term.{Term}
use Rattle.sparse_rows.specs.Lines.{entry_of, IsLine, IsFilled}

module _ {A : Type 0} (f : A → ℤ) where
  pub line_wider : (from low end : ℕ) (ts : List (Term A)) → low ≤ from → IsLine f from end ts → IsLine f low end ts
  line_wider from low end [] l h = omega arith
  line_wider from low end (t ∷ ts) l h = (let p = h.0 in omega arith, h.1)

  pub line_length : (from end : ℕ) (ts : List (Term A)) → IsLine f from end ts → from + length ts ≤ end
  line_length from end [] h = omega arith
  line_length from end (t ∷ ts) h = let l = line_length (t.column + 1) end ts h.1.1 in let p = h.0 in omega arith

  entry_here : (t : Term A) (ts : List (Term A)) (j : ℕ) → t.column ≡ j → entry_of f (t ∷ ts) j ≡ f t.value
  entry_here t ts j e = grind arith

  entry_there : (t : Term A) (ts : List (Term A)) (j : ℕ) → t.column ≢ j → entry_of f (t ∷ ts) j ≡ entry_of f ts j
  entry_there t ts j e = grind arith

  -- before a line begins and past its end there is no entry
  pub entry_below : (from end j : ℕ) (ts : List (Term A)) → IsLine f from end ts → j < from → entry_of f ts j ≡ pos 0
  entry_below from end j [] h l = refl
  entry_below from end j (t ∷ ts) h l =
      let p = h.0 in entry_there t ts j (λ e. omega arith) ∙ entry_below (t.column + 1) end j ts h.1.1 (omega arith)

  pub entry_past : (from end j : ℕ) (ts : List (Term A)) → IsLine f from end ts → end ≤ j → entry_of f ts j ≡ pos 0
  entry_past from end j [] h l = refl
  entry_past from end j (t ∷ ts) h l =
      let p = line_length (t.column + 1) end ts h.1.1 in entry_there t ts j (λ e. omega arith) ∙ entry_past (t.column + 1) end j ts h.1.1 l

  pub same_or_not : (i k : ℕ) → (i ≡ k) ⊎ (i ≢ k)
  same_or_not i k = grind arith

  -- a term put behind a line
  pub line_push : (from c column end : ℕ) (ts : List (Term A)) (v : A) → IsLine f from c ts → c ≤ column → column < end → f v ≢ pos 0
      → IsLine f from end (ts ++ record { column = column; value = v } ∷ [])
  line_push from c column end [] v h l m some = (omega arith, (some, omega arith))
  line_push from c column end (t ∷ ts) v h l m some = (h.0, (h.1.0, line_push (t.column + 1) c column end ts v h.1.1 l m some))

  pub entry_push_same : (from c column : ℕ) (ts : List (Term A)) (v : A) → IsLine f from c ts → c ≤ column
      → entry_of f (ts ++ record { column = column; value = v } ∷ []) column ≡ f v
  entry_push_same from c column [] v h l = entry_here (record { column = column; value = v }) [] column refl
  entry_push_same from c column (t ∷ ts) v h l =
      let p = line_length (t.column + 1) c ts h.1.1 in
      entry_there t (ts ++ record { column = column; value = v } ∷ []) column (λ e. omega arith) ∙ entry_push_same (t.column + 1) c column ts v h.1.1 l

  pub entry_push_other : (column j : ℕ) (ts : List (Term A)) (v : A) → column ≢ j
      → entry_of f (ts ++ record { column = column; value = v } ∷ []) j ≡ entry_of f ts j
  entry_push_other column j [] v differ = entry_there (record { column = column; value = v }) [] j differ
  entry_push_other column j (t ∷ ts) v differ = ⊎_elim
      (λ (e : t.column ≡ j). entry_here t (ts ++ record { column = column; value = v } ∷ []) j e ∙ sym (entry_here t ts j e))
      (λ (e : t.column ≢ j). entry_there t (ts ++ record { column = column; value = v } ∷ []) j e ∙ (entry_push_other column j ts v differ ∙ sym (entry_there t ts j e)))
      (same_or_not t.column j)

  pub line_longer : (from c end : ℕ) (ts : List (Term A)) → c ≤ end → IsLine f from c ts → IsLine f from end ts
  line_longer from c end [] l h = omega arith
  line_longer from c end (t ∷ ts) l h = (h.0, (h.1.0, line_longer (t.column + 1) c end ts l h.1.1))

  -- nothing is put at a column with entry 0, nor at those before it
  pub filled_none : (ts : List (Term A)) (c end : ℕ) (entries : ℕ → ℤ) → IsFilled f ts c entries → c ≤ end
      → ((j : ℕ) → c ≤ j → j < end → entries j ≡ pos 0) → IsFilled f ts end entries
  filled_none ts c end entries h l none = record {
    line = line_longer 0 c end ts l h.line;
    same = λ j m. ⊎_elim
        (λ (p : j < c). h.same j p)
        (λ (p : c ≤ j). entry_past 0 c j ts h.line p ∙ sym (none j p m))
        (cases_lt j c);
  }
    where
      cases_lt : (a b : ℕ) → (a < b) ⊎ (b ≤ a)
      cases_lt a b = grind arith

  -- a term put behind
  pub filled_more : (ts : List (Term A)) (c column : ℕ) (entries : ℕ → ℤ) (v : A) → IsFilled f ts c entries → c ≤ column
      → ((j : ℕ) → c ≤ j → j < column → entries j ≡ pos 0) → entries column ≡ f v → f v ≢ pos 0
      → IsFilled f (ts ++ record { column = column; value = v } ∷ []) (column + 1) entries
  filled_more ts c column entries v h l none e some = record {
    line = line_push 0 c column (column + 1) ts v h.line l (omega arith) some;
    same = λ j m. ⊎_elim
        (λ (p : column ≡ j). let P : ℕ → Type 0 = λ x. entry_of f (ts ++ record { column = column; value = v } ∷ []) x ≡ entries x in
        subst P p (entry_push_same 0 c column ts v h.line l ∙ sym e))
        (λ (p : column ≢ j). entry_push_other column j ts v p ∙ (filled_none ts c column entries h l none).same j (omega arith))
        (same_or_not column j);
  }

  -- what is left of a row from place a on: a line from `from`, with the row's entries there
  pub record IsRest (row : List (Term A)) (a from end : ℕ) : Type 0 where
    pub line : IsLine f from end (drop a row)
    pub same : (j : ℕ) → from ≤ j → entry_of f row j ≡ entry_of f (drop a row) j

  pub rest_all : (row : List (Term A)) (end : ℕ) → IsLine f 0 end row → IsRest row 0 0 end
  rest_all row end h = record { line = h; same = λ j l. refl }

  -- the columns before the next term have no entry
  pub rest_none : (row : List (Term A)) (a from end to : ℕ) → IsRest row a from end → IsLine f to end (drop a row) → (j : ℕ) → from ≤ j → j < to → entry_of f row j ≡ pos 0
  rest_none row a from end to h line j l m = h.same j l ∙ entry_below to end j (drop a row) line m

  pub rest_later : (row : List (Term A)) (a from end to : ℕ) → IsRest row a from end → from ≤ to → IsLine f to end (drop a row) → IsRest row a to end
  rest_later row a from end to h l line = record { line = line; same = λ j m. h.same j (omega arith) }

  drop_next : (xs : List (Term A)) (a : ℕ) (t : Term A) → a < length xs → t ≡ get_or xs a t → drop a xs ≡ t ∷ drop (a + 1) xs
  drop_next [] a t l e = absurd (omega arith)
  drop_next (x ∷ xs) zero t l e = grind arith
  drop_next (x ∷ xs) (suc a) t l e = grind (arith, drop_next xs a t)

  module _ (row : List (Term A)) (a from end : ℕ) (h : IsRest row a from end) (t : Term A) (l : a < length row) (e : t ≡ get_or row a t) where
    next : drop a row ≡ t ∷ drop (a + 1) row
    next = drop_next row a t l e

    line_next : IsLine f from end (t ∷ drop (a + 1) row)
    line_next = let P : List (Term A) → Type 0 = λ ts. IsLine f from end ts in subst P next h.line

    pub next_from : from ≤ t.column
    next_from = line_next.0

    pub next_end : t.column < end
    next_end = let m = line_length (t.column + 1) end (drop (a + 1) row) line_next.1.1 in omega arith

    pub next_some : f t.value ≢ pos 0
    next_some = line_next.1.0

    -- the line from the next term's column, or from one before it
    pub line_from : (to : ℕ) → to ≤ t.column → IsLine f to end (drop a row)
    line_from to m = let P : List (Term A) → Type 0 = λ ts. IsLine f to end ts in subst P (sym next) (m, line_next.1)

    pub next_entry : entry_of f row t.column ≡ f t.value
    next_entry = h.same t.column next_from ∙ (ap (λ ts. entry_of f ts t.column) next ∙ entry_here t (drop (a + 1) row) t.column refl)

    -- the term taken
    pub rest_taken : IsRest row (a + 1) (t.column + 1) end
    rest_taken = record {
      line = line_next.1.1;
      same = λ j m. let first = next_from in h.same j (omega arith) ∙ (ap (λ ts. entry_of f ts j) next ∙ entry_there t (drop (a + 1) row) j (λ x. omega arith));
    }

  -- a row that is walked to its end has no more entries
  pub rest_empty : (row : List (Term A)) (a from end to : ℕ) → IsRest row a from end → length row ≤ a → to ≤ end → IsLine f to end (drop a row)
  rest_empty row a from end to h l m = let P : List (Term A) → Type 0 = λ ts. IsLine f to end ts in subst P (sym (drop_all a row l)) m

  pub none_left : (row : List (Term A)) (a from end j : ℕ) → IsRest row a from end → length row ≤ a → from ≤ j → entry_of f row j ≡ pos 0
  none_left row a from end j h l m = h.same j m ∙ ap (λ ts. entry_of f ts j) (drop_all a row l)

  -- the rest of a line from each of its places
  rest_of : (ts : List (Term A)) (end : ℕ) → IsLine f 0 end ts → (k : ℕ) → k ≤ length ts → (from : ℕ) × IsRest ts k from end
  rest_of ts end line zero l = (0, rest_all ts end line)
  rest_of ts end line (suc k) l =
      let before = rest_of ts end line k (omega arith) in
      let within : k < length ts = omega arith in
      step ts end k before.0 before.1 within
    where
      step : (ts : List (Term A)) (end k from : ℕ) → IsRest ts k from end → k < length ts → (to : ℕ) × IsRest ts (suc k) to end
      step [] end k from h l = absurd (omega arith)
      step (x ∷ xs) end k from h l =
          let t = get_or (x ∷ xs) k x in
          let e : k + 1 ≡ suc k = omega arith in
          (t.column + 1, (let P : ℕ → Type 0 = λ n. IsRest (x ∷ xs) n (t.column + 1) end in subst P e (rest_taken (x ∷ xs) k from end h t l (get_or_any (x ∷ xs) k x t l))))
        where
          get_or_any : (ys : List (Term A)) (n : ℕ) (d c : Term A) → n < length ys → get_or ys n d ≡ get_or ys n c
          get_or_any [] n d c l = absurd (omega arith)
          get_or_any (y ∷ ys) zero d c l = refl
          get_or_any (y ∷ ys) (suc n) d c l = get_or_any ys n d c (omega arith)

  -- a term of a line: its value is the row's entry at its column, which lies below the end
  pub value_entry : (ts : List (Term A)) (end : ℕ) → IsLine f 0 end ts → (k : ℕ) (t : Term A) → k < length ts → t ≡ get_or ts k t → entry_of f ts t.column ≡ f t.value
  value_entry ts end line k t l e = let r = rest_of ts end line k (omega arith) in next_entry ts k r.0 end r.1 t l e

  pub value_column : (ts : List (Term A)) (end : ℕ) → IsLine f 0 end ts → (k : ℕ) (t : Term A) → k < length ts → t ≡ get_or ts k t → t.column < end
  value_column ts end line k t l e = let r = rest_of ts end line k (omega arith) in next_end ts k r.0 end r.1 t l e
