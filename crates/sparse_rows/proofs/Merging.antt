-- Two lines walked side by side while a third is filled with the cells of the reduced row.
use Rattle.std.proofs.Common.{◌≡◌, ℕ, ◌+◌, ◌≤◌, ◌<◌, List, length, get_or, drop, arith, ap, sym, ◌∙◌, subst}
use Rattle.std.specs.Prelude.{ℤ, pos}
use Rattle.std.proofs.lemmas.Int.{ints}
use Rattle.term_store.specs.declared.term.Term.{Term}
use Rattle.sparse_rows.specs.Lines.{entry_of, IsLine, IsFilled}
use Rattle.sparse_rows.specs.Cells.{cell, IsWideCell}
use Rattle.sparse_rows.proofs.LinesLemmas.{IsRest, rest_all, rest_none, rest_later, rest_taken, next_from, next_end, next_entry, line_from, line_length, none_left, filled_none}

module _ {A B : Type 0} (f : A → ℤ) (g : B → ℤ) (keep take : ℤ) (pivot other : List (Term A)) (end : ℕ) where
  abbrev pub cells : ℕ → ℤ
  cells j = cell keep (entry_of f other j) take (entry_of f pivot j)

  -- the columns before one are done: the rests of both rows begin there, and the cells before it are filled in
  pub record IsMerging (a b : ℕ) (out : List (Term B)) : Type 0 where
    pub column : ℕ
    pub pivot_rest : IsRest f pivot a column end
    pub other_rest : IsRest f other b column end
    pub filled : IsFilled g out column (λ j. cell keep (entry_of f other j) take (entry_of f pivot j))

  -- what `put` promises of the list before and after
  abbrev pub IsPut : List (Term B) → ℕ → ℤ → List (Term B) → Type 0
  IsPut old at value new = (entries : ℕ → ℤ) (c : ℕ) → IsFilled g old c entries → c ≤ at
      → ((j : ℕ) → c ≤ j → j < at → entries j ≡ pos 0) → entries at ≡ value → IsFilled g new (at + 1) entries

  none : cell keep (pos 0) take (pos 0) ≡ pos 0
  none = omega (arith, ints)

  zero_cell : (j : ℕ) → entry_of f other j ≡ pos 0 → entry_of f pivot j ≡ pos 0 → cell keep (entry_of f other j) take (entry_of f pivot j) ≡ pos 0
  zero_cell j e h = ap (λ y. cell keep y take (entry_of f pivot j)) e ∙ (ap (λ x. cell keep (pos 0) take x) h ∙ none)

  pub merging_begins : (out : List (Term B)) → IsLine f 0 end pivot → IsLine f 0 end other → IsFilled g out 0 (λ j. cell keep (entry_of f other j) take (entry_of f pivot j)) → IsMerging 0 0 out
  merging_begins out p o h = record { column = 0; pivot_rest = rest_all f pivot end p; other_rest = rest_all f other end o; filled = h }

  module _ (a b : ℕ) (out : List (Term B)) (m : IsMerging a b out) where
    -- the next term of the pivot row, with none of the other row up to its column
    module _ (x : Term A) (l : a < length pivot) (e : x ≡ get_or pivot a x) (behind : IsLine f (x.column + 1) end (drop b other)) where
      other_none : (j : ℕ) → m.column ≤ j → j ≤ x.column → entry_of f other j ≡ pos 0
      other_none j low high = rest_none f other b m.column end (x.column + 1) m.other_rest behind j low (omega arith)

      pub pivot_cell : cell keep (entry_of f other x.column) take (entry_of f pivot x.column) ≡ cell keep (pos 0) take (f x.value)
      pivot_cell = ap (λ y. cell keep y take (entry_of f pivot x.column)) (other_none x.column (next_from f pivot a m.column end m.pivot_rest x l e) (omega arith))
          ∙ ap (λ y. cell keep (pos 0) take y) (next_entry f pivot a m.column end m.pivot_rest x l e)

      pub pivot_wide : (greatest : ℕ) → IsWideCell greatest keep (pos 0) take (f x.value) → IsWideCell greatest keep (entry_of f other x.column) take (entry_of f pivot x.column)
      pivot_wide greatest h =
          let P : ℤ → Type 0 = λ y. IsWideCell greatest keep y take (entry_of f pivot x.column) in
          let Q : ℤ → Type 0 = λ y. IsWideCell greatest keep (pos 0) take y in
          subst P (sym (other_none x.column (next_from f pivot a m.column end m.pivot_rest x l e) (omega arith)))
          (subst Q (sym (next_entry f pivot a m.column end m.pivot_rest x l e)) h)

      pub pivot_room : length out < end
      pivot_room =
          let n = line_length g 0 m.column out m.filled.line in
          let p = next_from f pivot a m.column end m.pivot_rest x l e in
          let q = next_end f pivot a m.column end m.pivot_rest x l e in
          omega arith

      pub pivot_step : (value : ℤ) (new : List (Term B)) → value ≡ cell keep (pos 0) take (f x.value) → IsPut out x.column value new → IsMerging (a + 1) b new
      pivot_step value new is put = record {
        column = x.column + 1;
        pivot_rest = rest_taken f pivot a m.column end m.pivot_rest x l e;
        other_rest = rest_later f other b m.column end (x.column + 1) m.other_rest (let p = next_from f pivot a m.column end m.pivot_rest x l e in omega arith) behind;
        filled = put (λ j. cell keep (entry_of f other j) take (entry_of f pivot j)) m.column m.filled (next_from f pivot a m.column end m.pivot_rest x l e)
            (λ j low high. zero_cell j (other_none j low (omega arith))
            (rest_none f pivot a m.column end x.column m.pivot_rest (line_from f pivot a m.column end m.pivot_rest x l e x.column (omega arith)) j low high))
            (pivot_cell ∙ sym is);
      }

    -- the next term of the other row, with none of the pivot row up to its column
    module _ (y : Term A) (l : b < length other) (e : y ≡ get_or other b y) (behind : IsLine f (y.column + 1) end (drop a pivot)) where
      pivot_none : (j : ℕ) → m.column ≤ j → j ≤ y.column → entry_of f pivot j ≡ pos 0
      pivot_none j low high = rest_none f pivot a m.column end (y.column + 1) m.pivot_rest behind j low (omega arith)

      pub other_cell : cell keep (entry_of f other y.column) take (entry_of f pivot y.column) ≡ cell keep (f y.value) take (pos 0)
      other_cell = ap (λ z. cell keep z take (entry_of f pivot y.column)) (next_entry f other b m.column end m.other_rest y l e)
          ∙ ap (λ z. cell keep (f y.value) take z) (pivot_none y.column (next_from f other b m.column end m.other_rest y l e) (omega arith))

      pub other_wide : (greatest : ℕ) → IsWideCell greatest keep (f y.value) take (pos 0) → IsWideCell greatest keep (entry_of f other y.column) take (entry_of f pivot y.column)
      other_wide greatest h =
          let P : ℤ → Type 0 = λ z. IsWideCell greatest keep z take (entry_of f pivot y.column) in
          let Q : ℤ → Type 0 = λ z. IsWideCell greatest keep (f y.value) take z in
          subst P (sym (next_entry f other b m.column end m.other_rest y l e))
          (subst Q (sym (pivot_none y.column (next_from f other b m.column end m.other_rest y l e) (omega arith))) h)

      pub other_room : length out < end
      other_room =
          let n = line_length g 0 m.column out m.filled.line in
          let p = next_from f other b m.column end m.other_rest y l e in
          let q = next_end f other b m.column end m.other_rest y l e in
          omega arith

      pub other_step : (value : ℤ) (new : List (Term B)) → value ≡ cell keep (f y.value) take (pos 0) → IsPut out y.column value new → IsMerging a (b + 1) new
      other_step value new is put = record {
        column = y.column + 1;
        pivot_rest = rest_later f pivot a m.column end (y.column + 1) m.pivot_rest (let p = next_from f other b m.column end m.other_rest y l e in omega arith) behind;
        other_rest = rest_taken f other b m.column end m.other_rest y l e;
        filled = put (λ j. cell keep (entry_of f other j) take (entry_of f pivot j)) m.column m.filled (next_from f other b m.column end m.other_rest y l e)
            (λ j low high. zero_cell j
            (rest_none f other b m.column end y.column m.other_rest (line_from f other b m.column end m.other_rest y l e y.column (omega arith)) j low high)
            (pivot_none j low (omega arith)))
            (other_cell ∙ sym is);
      }

    -- both rows have a term at the column
    module _ (x y : Term A) (l : a < length pivot) (e : x ≡ get_or pivot a x) (m2 : b < length other) (h : y ≡ get_or other b y) (same : y.column ≡ x.column) where
      x_from : m.column ≤ x.column
      x_from = next_from f pivot a m.column end m.pivot_rest x l e

      other_entry : entry_of f other x.column ≡ f y.value
      other_entry = ap (entry_of f other) (sym same) ∙ next_entry f other b m.column end m.other_rest y m2 h

      pub both_cell : cell keep (entry_of f other x.column) take (entry_of f pivot x.column) ≡ cell keep (f y.value) take (f x.value)
      both_cell = ap (λ z. cell keep z take (entry_of f pivot x.column)) other_entry ∙ ap (λ z. cell keep (f y.value) take z) (next_entry f pivot a m.column end m.pivot_rest x l e)

      pub both_wide : (greatest : ℕ) → IsWideCell greatest keep (f y.value) take (f x.value) → IsWideCell greatest keep (entry_of f other x.column) take (entry_of f pivot x.column)
      both_wide greatest q =
          let P : ℤ → Type 0 = λ z. IsWideCell greatest keep z take (entry_of f pivot x.column) in
          let Q : ℤ → Type 0 = λ z. IsWideCell greatest keep (f y.value) take z in
          subst P (sym other_entry) (subst Q (sym (next_entry f pivot a m.column end m.pivot_rest x l e)) q)

      pub both_room : length out < end
      both_room =
          let n = line_length g 0 m.column out m.filled.line in
          let q = next_end f pivot a m.column end m.pivot_rest x l e in
          let p = x_from in
          omega arith

      pub both_step : (value : ℤ) (new : List (Term B)) → value ≡ cell keep (f y.value) take (f x.value) → IsPut out x.column value new → IsMerging (a + 1) (b + 1) new
      both_step value new is put = record {
        column = x.column + 1;
        pivot_rest = rest_taken f pivot a m.column end m.pivot_rest x l e;
        other_rest = (let P : ℕ → Type 0 = λ z. IsRest f other (b + 1) (z + 1) end in subst P same (rest_taken f other b m.column end m.other_rest y m2 h));
        filled = put (λ j. cell keep (entry_of f other j) take (entry_of f pivot j)) m.column m.filled x_from
            (λ j low high. zero_cell j
            (rest_none f other b m.column end y.column m.other_rest (line_from f other b m.column end m.other_rest y m2 h y.column (omega arith)) j low (omega arith))
            (rest_none f pivot a m.column end x.column m.pivot_rest (line_from f pivot a m.column end m.pivot_rest x l e x.column (omega arith)) j low high))
            (both_cell ∙ sym is);
      }

    -- both rows are walked to their ends
    column_end : m.column ≤ end
    column_end = let l = line_length f m.column end (drop a pivot) m.pivot_rest.line in omega arith

    pub merging_ends : length pivot ≤ a → length other ≤ b → IsFilled g out end (λ j. cell keep (entry_of f other j) take (entry_of f pivot j))
    merging_ends p o = filled_none g out m.column end (λ j. cell keep (entry_of f other j) take (entry_of f pivot j)) m.filled column_end
        (λ j low high. zero_cell j (none_left f other b m.column end j m.other_rest o low) (none_left f pivot a m.column end j m.pivot_rest p low))
