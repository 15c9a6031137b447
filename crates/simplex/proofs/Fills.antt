-- Numbers of a program put into memory one by one.
use Rattle.std.proofs.Common.{◌≡◌, ℕ, zero, suc, ◌+◌, ◌≤◌, ◌<◌, ◌⊎◌, List, [], ◌∷◌, ◌++◌, length, get_or, Bool, false, arith, ap, sym, ◌∙◌, refl, subst, inl, inr, ⊎_elim, length-append}
use Rattle.std.specs.Prelude.{ℤ, pos, negsuc, ◌≢◌, ◌*ℤ◌}
use Rattle.std.proofs.lemmas.Int.{ints}
use Rattle.algebra.specs.Numbered.{IsNumber}
use Rattle.algebra.proofs.NumberedLemmas.{numbered_in}
use Rattle.term_store.specs.declared.term.Term.{Term}
use Rattle.programs.specs.Programs.{Program, column_count, row_count, cost_at, row_at, coefficient, entry, empty_row}
use Rattle.programs.specs.Limits.{Rises, IsWithinLimits}
use Rattle.programs.proofs.EntriesLemmas.{entry_here, entry_elsewhere}
use Rattle.sparse_rows.specs.Lines.{entry_of, IsLine, IsFilled}
use Rattle.sparse_rows.specs.Sums.{meaning_at}
use Rattle.sparse_rows.proofs.LinesLemmas.{line_push, entry_push_same, entry_push_other, entry_below, line_length, value_entry, value_column, line_wider}
use Rattle.sparse_rows.proofs.Common.{AreQuotients, quotients_line, quotients_entries}
use Rattle.tableau.specs.Programs.{Given}
use Rattle.tableau.specs.Operations.{IsGivenNumber, IsWideNumber}
use Rattle.simplex.specs.Givens.{low_at, high_at, has_high_at}
use Rattle.simplex.specs.Starts.{cost_entry, start_entry}
use Rattle.simplex.specs.inside.Filled.{AreBounds, AreLines}

same_or_not : (i k : ℕ) → (i ≡ k) ⊎ (i ≢ k)
same_or_not i k = grind arith

-- ---- an element put behind a list

pub get_push_same : {X : Type 0} (xs : List X) (x d : X) → get_or (xs ++ x ∷ []) (length xs) d ≡ x
get_push_same [] x d = refl
get_push_same (y ∷ ys) x d = get_push_same ys x d

pub get_push_other : {X : Type 0} (xs : List X) (x d : X) (j : ℕ) → j < length xs → get_or (xs ++ x ∷ []) j d ≡ get_or xs j d
get_push_other [] x d j l = absurd (omega arith)
get_push_other (y ∷ ys) x d zero l = refl
get_push_other (y ∷ ys) x d (suc j) l = get_push_other ys x d j (omega arith)

-- a basis with one slack more
pub basis_more : (xs ys : List ℕ) (columns k z : ℕ) → length xs ≡ k + 1 → ys ≡ xs ++ z ∷ [] → z ≡ columns + k + 1 → ((i : ℕ) → 1 ≤ i → i ≤ k → get_or xs i 0 ≡ columns + i)
    → (i : ℕ) → 1 ≤ i → i ≤ k + 1 → get_or ys i 0 ≡ columns + i
basis_more xs ys columns k z size e is each i first last = ⊎_elim
    (λ (s : length xs ≡ i). ap (λ zs. get_or zs i 0) e ∙ ap (λ j. get_or (xs ++ z ∷ []) j 0) (sym s) ∙ get_push_same xs z 0 ∙ omega arith)
    (λ (s : length xs ≢ i). ap (λ zs. get_or zs i 0) e ∙ get_push_other xs z 0 i (omega arith) ∙ each i first (omega arith))
    (same_or_not (length xs) i)

meaning_push_same : {A : Type 0} (f : A → ℤ) (xs : List A) (x : A) → meaning_at f (xs ++ x ∷ []) (length xs) ≡ f x
meaning_push_same f [] x = refl
meaning_push_same f (y ∷ ys) x = meaning_push_same f ys x

meaning_push_other : {A : Type 0} (f : A → ℤ) (xs : List A) (x : A) (j : ℕ) → j < length xs → meaning_at f (xs ++ x ∷ []) j ≡ meaning_at f xs j
meaning_push_other f [] x j l = absurd (omega arith)
meaning_push_other f (y ∷ ys) x zero l = refl
meaning_push_other f (y ∷ ys) x (suc j) l = meaning_push_other f ys x j (omega arith)

push_length : {X : Type 0} (xs : List X) (x : X) → length (xs ++ x ∷ []) ≡ length xs + 1
push_length xs x = length-append xs (x ∷ []) ∙ omega arith

-- ---- bounds

pub bounds_none : {A : Type 0} (f : A → ℤ) (program : Program) (low high : List A) (has_high : List Bool) → length low ≡ 1 → length high ≡ 1 → length has_high ≡ 1 → AreBounds f program 1 low high has_high
bounds_none f program low high has_high l h b = record {
  low_count = l;
  high_count = h;
  has_high_count = b;
  lows = λ j first last. absurd (omega arith);
  highs = λ j first last. absurd (omega arith);
  bounded = λ j first last. absurd (omega arith);
}

pub bounds_more : {A : Type 0} (f : A → ℤ) (program : Program) (end : ℕ) (low high : List A) (has_high : List Bool) (least greatest : A) (bounded : Bool) → AreBounds f program end low high has_high → 1 ≤ end
    → f least ≡ low_at program end → f greatest ≡ high_at program end → bounded ≡ has_high_at program end
    → AreBounds f program (end + 1) (low ++ least ∷ []) (high ++ greatest ∷ []) (has_high ++ bounded ∷ [])
bounds_more f program end low high has_high least greatest bounded h first l g b = record {
  low_count = (let e = h.low_count in push_length low least ∙ omega arith);
  high_count = (let e = h.high_count in push_length high greatest ∙ omega arith);
  has_high_count = (let e = h.has_high_count in push_length has_high bounded ∙ omega arith);
  lows = λ j low_j high_j. let e = h.low_count in ⊎_elim
      (λ (s : length low ≡ j). let P : ℕ → Type 0 = λ x. meaning_at f (low ++ least ∷ []) x ≡ low_at program x in subst P s (meaning_push_same f low least ∙ (l ∙ ap (low_at program) (sym e))))
      (λ (s : length low ≢ j). meaning_push_other f low least j (omega arith) ∙ h.lows j low_j (omega arith))
      (same_or_not (length low) j);
  highs = λ j low_j high_j. let e = h.high_count in ⊎_elim
      (λ (s : length high ≡ j). let P : ℕ → Type 0 = λ x. meaning_at f (high ++ greatest ∷ []) x ≡ high_at program x in subst P s (meaning_push_same f high greatest ∙ (g ∙ ap (high_at program) (sym e))))
      (λ (s : length high ≢ j). meaning_push_other f high greatest j (omega arith) ∙ h.highs j low_j (omega arith))
      (same_or_not (length high) j);
  bounded = λ j low_j high_j. let e = h.has_high_count in ⊎_elim
      (λ (s : length has_high ≡ j). let P : ℕ → Type 0 = λ x. get_or (has_high ++ bounded ∷ []) x false ≡ has_high_at program x in subst P s (get_push_same has_high bounded false ∙ (b ∙ ap (has_high_at program) (sym e))))
      (λ (s : length has_high ≢ j). get_push_other has_high bounded false j (omega arith) ∙ h.bounded j low_j (omega arith))
      (same_or_not (length has_high) j);
}

-- ---- costs

pub cost_entry_at : (program : Program) (j : ℕ) → 1 ≤ j → cost_entry program j ≡ cost_at program j
cost_entry_at program j l = grind arith

-- ---- rows

id : ℤ → ℤ
id z = z

pub rises_line : (low high : ℕ) (ts : List (Term ℤ)) → Rises low high ts → IsLine (λ z. z) (low + 1) (high + 1) ts
rises_line low high [] h = omega arith
rises_line low high (t ∷ ts) h = (let l = h.0 in omega arith, (h.1.0, rises_line t.column high ts h.1.1))

entry_at_head : (t : Term ℤ) (ts : List (Term ℤ)) (j : ℕ) → t.column ≡ j → entry_of (λ z. z) (t ∷ ts) j ≡ t.value
entry_at_head t ts j e = grind arith

entry_at_tail : (t : Term ℤ) (ts : List (Term ℤ)) (j : ℕ) → t.column ≢ j → entry_of (λ z. z) (t ∷ ts) j ≡ entry_of (λ z. z) ts j
entry_at_tail t ts j e = grind arith

pub coefficient_entry : (low high j : ℕ) (ts : List (Term ℤ)) → Rises low high ts → coefficient j ts ≡ entry_of (λ z. z) ts j
coefficient_entry low high j [] h = refl
coefficient_entry low high j (t ∷ ts) h = ⊎_elim
    (λ (e : t.column ≡ j).
    let first = ap (λ k. entry k t) (sym e) ∙ entry_here t in
    let rest = coefficient_entry t.column high j ts h.1.1 ∙ entry_below (λ z. z) (t.column + 1) (high + 1) j ts (rises_line t.column high ts h.1.1) (omega arith) in
    let all = entry_at_head t ts j e in
    omega (arith, ints))
    (λ (e : t.column ≢ j).
    let first = entry_elsewhere j t (λ q. e (sym q)) in
    let rest = coefficient_entry t.column high j ts h.1.1 in
    let all = entry_at_tail t ts j e in
    omega (arith, ints))
    (same_or_not t.column j)

-- the terms of a row of a program within limits
pub row_rises : (program : Program) → IsWithinLimits program → (i : ℕ) → IsNumber i (row_count program) → Rises 0 (column_count program) (row_at program i).terms
row_rises program limits i n = numbered_in (λ row. Rises 0 (column_count program) row.terms) empty_row program.rows limits.rising i n

module _ (program : Program) (limits : IsWithinLimits program) (i : ℕ) (n : IsNumber i (row_count program)) where
  pub row_line : IsLine (λ z. z) 0 (column_count program + 1) (row_at program i).terms
  row_line = line_wider (λ z. z) 1 0 (column_count program + 1) (row_at program i).terms (omega arith) (rises_line 0 (column_count program) (row_at program i).terms (row_rises program limits i n))

  pub row_line_1 : IsLine (λ z. z) 1 (column_count program + 1) (row_at program i).terms
  row_line_1 = rises_line 0 (column_count program) (row_at program i).terms (row_rises program limits i n)

  pub row_length : length (row_at program i).terms ≤ column_count program
  row_length = let l = line_length (λ z. z) 1 (column_count program + 1) (row_at program i).terms (rises_line 0 (column_count program) (row_at program i).terms (row_rises program limits i n)) in omega arith

  -- a term's value is the coefficient at its column
  module _ (k : ℕ) (t : Term ℤ) (l : k < length (row_at program i).terms) (e : t ≡ get_or (row_at program i).terms k t) where
    pub term_coefficient : coefficient t.column (row_at program i).terms ≡ t.value
    term_coefficient = coefficient_entry 0 (column_count program) t.column (row_at program i).terms (row_rises program limits i n)
        ∙ value_entry (λ z. z) (row_at program i).terms (column_count program + 1) row_line k t l e

    pub term_column : t.column < column_count program + 1
    term_column = value_column (λ z. z) (row_at program i).terms (column_count program + 1) row_line k t l e

    pub term_first : 1 ≤ t.column
    term_first = first_column 1 (column_count program + 1) (row_at program i).terms k t row_line_1 l e
      where
        first_column : (from end : ℕ) (ts : List (Term ℤ)) (k : ℕ) (t : Term ℤ) → IsLine (λ z. z) from end ts → k < length ts → t ≡ get_or ts k t → from ≤ t.column
        first_column from end [] k t line l e = absurd (omega arith)
        first_column from end (u ∷ us) zero t line l e = let a = ap (λ (x : Term ℤ). x.column) e in let b = line.0 in omega arith
        first_column from end (u ∷ us) (suc k) t line l e = let b = line.0 in let c = first_column (u.column + 1) end us k t line.1.1 (omega arith) e in omega arith

  -- the row with its slack behind it
  pub row_filled : {A : Type 0} (f : A → ℤ) (us : List (Term A)) (slack : A) → AreQuotients (λ z. z) f (pos 1) (row_at program i).terms us → f slack ≡ negsuc 0
      → IsFilled f (us ++ record { column = column_count program + i; value = slack } ∷ []) (column_count program + row_count program + 1) (start_entry program i)
  row_filled f us slack q s =
      let first = n.from_one in let last = n.at_most in
      let line = quotients_line (λ z. z) f (pos 1) 0 (column_count program + 1) (row_at program i).terms us q row_line in
      record {
        line = line_push f 0 (column_count program + 1) (column_count program + i) (column_count program + row_count program + 1) us slack line (omega arith) (omega arith) (λ z. let e = s in omega (arith, ints));
        same = λ j l. ⊎_elim
            (λ (e : column_count program + i ≡ j).
            let P : ℕ → Type 0 = λ x. entry_of f (us ++ record { column = column_count program + i; value = slack } ∷ []) x ≡ start_entry program i x in
            subst P e (entry_push_same f 0 (column_count program + 1) (column_count program + i) us slack line (omega arith) ∙ (s ∙ sym (start_slack (column_count program + i) refl))))
            (λ (e : column_count program + i ≢ j).
            entry_push_other f (column_count program + i) j us slack e
            ∙ (one_times (entry_of (λ z. z) (row_at program i).terms j) (entry_of f us j) (quotients_entries (λ z. z) f (pos 1) (row_at program i).terms us j q)
            ∙ (sym (coefficient_entry 0 (column_count program) j (row_at program i).terms (row_rises program limits i n)) ∙ sym (start_other j e))))
            (same_or_not (column_count program + i) j);
      }
    where
      one_times : (a b : ℤ) → a ≡ pos 1 *ℤ b → b ≡ a
      one_times a b e = omega (arith, ints)

      start_slack : (j : ℕ) → column_count program + i ≡ j → start_entry program i j ≡ negsuc 0
      start_slack j e = grind arith

      start_other : (j : ℕ) → column_count program + i ≢ j → start_entry program i j ≡ coefficient j (row_at program i).terms
      start_other j e = grind arith

-- ---- the rows in their order

pub lines_none : {A : Type 0} (f : A → ℤ) (program : Program) (rows : List (List (Term A))) (line : List (Term A)) → rows ≡ [] ++ line ∷ [] → IsFilled f line (column_count program + 1) (cost_entry program) → AreLines f program 0 rows
lines_none f program rows line e h = record {
  many = (let l = ap length e in omega arith);
  costs = (let P : List (List _) → Type 0 = λ ls. IsFilled f (get_or ls 0 []) (column_count program + 1) (cost_entry program) in subst P (sym e) h);
  rows = λ i a b. absurd (omega arith);
}

pub lines_more : {A : Type 0} (f : A → ℤ) (program : Program) (last : ℕ) (rows rows' : List (List (Term A))) (line : List (Term A)) → AreLines f program last rows → length rows ≡ last + 1 → rows' ≡ rows ++ line ∷ []
    → IsFilled f line (column_count program + row_count program + 1) (start_entry program (last + 1)) → AreLines f program (last + 1) rows'
lines_more {A = A} f program last rows rows' line h size e filled = record {
  many = (let l = ap length e in let k = push_length rows line in omega arith);
  costs = subst (λ (ts : List (Term A)). IsFilled f ts (column_count program + 1) (cost_entry program)) (sym (ap (λ ls. get_or ls 0 []) e ∙ get_push_other rows line [] 0 (omega arith))) h.costs;
  rows = λ i a b. ⊎_elim
      (λ (s : last + 1 ≡ i).
      let P : ℕ → Type 0 = λ x. IsFilled f (get_or rows' x []) (column_count program + row_count program + 1) (start_entry program x) in
      subst P s (subst (λ (ts : List (Term A)). IsFilled f ts (column_count program + row_count program + 1) (start_entry program (last + 1)))
      (sym (ap (λ ls. get_or ls (last + 1) []) e ∙ (ap (λ k. get_or (rows ++ line ∷ []) k []) (sym size) ∙ get_push_same rows line []))) filled))
      (λ (s : last + 1 ≢ i).
      subst (λ (ts : List (Term A)). IsFilled f ts (column_count program + row_count program + 1) (start_entry program i)) (sym (ap (λ ls. get_or ls i []) e ∙ get_push_other rows line [] i (omega arith))) (h.rows i a (omega arith)))
      (same_or_not (last + 1) i);
}

pub lines_spare : {A : Type 0} (f : A → ℤ) (program : Program) (last : ℕ) (rows rows' : List (List (Term A))) (line : List (Term A)) → AreLines f program last rows → rows' ≡ rows ++ line ∷ [] → AreLines f program last rows'
lines_spare {A = A} f program last rows rows' line h e =
    let m = h.many in record {
      many = (let l = ap length e in let k = push_length rows line in omega arith);
      costs = subst (λ (ts : List (Term A)). IsFilled f ts (column_count program + 1) (cost_entry program)) (sym (ap (λ ls. get_or ls 0 []) e ∙ get_push_other rows line [] 0 (omega arith))) h.costs;
      rows = λ i a b. subst (λ (ts : List (Term A)). IsFilled f ts (column_count program + row_count program + 1) (start_entry program i)) (sym (ap (λ ls. get_or ls i []) e ∙ get_push_other rows line [] i (omega arith))) (h.rows i a b);
    }

-- an element, whatever stands for one past the end
pub item_is : {X : Type 0} (xs ys : List X) (k : ℕ) (d : X) → xs ≡ ys → k < length xs → get_or xs k d ≡ get_or ys k (get_or xs k d)
item_is xs ys k d e l = any xs k d (get_or xs k d) l ∙ ap (λ zs. get_or zs k (get_or xs k d)) e
  where
    any : {Y : Type 0} (zs : List Y) (n : ℕ) (a b : Y) → n < length zs → get_or zs n a ≡ get_or zs n b
    any [] n a b l = absurd (omega arith)
    any (z ∷ zs) zero a b l = refl
    any (z ∷ zs) (suc n) a b l = any zs n a b (omega arith)

-- the row of a number that is out of range is one of the program, or 0
given_row : (g : Given) (i j : ℕ) (z : ℤ) → IsGivenNumber g i j z → i ≤ g.rows
given_row g i j z (inl h) = h.1
given_row g i j z (inr (inl h)) = let none = h.0 in omega arith
given_row g i j z (inr (inr h)) = let last = h.1 in let row = h.2 in omega arith

pub wide_row : (greatest : ℕ) (g : Given) (i j : ℕ) → IsWideNumber greatest g i j → i ≤ g.rows
wide_row greatest g i j h = given_row g i j h.0 h.1
