-- The choice in terms of lists is the choice in the tableau.
use Rattle.std.proofs.Common.{◌≡◌, ℕ, ◌+◌, ◌-◌, ◌≤◌, ◌<◌, ◌⊎◌, inl, inr, List, [], ◌∷◌, length, get_or, false, cond, arith, ap, sym, ◌∙◌, refl, subst, ⊎_elim}
use Rattle.std.specs.Prelude.{ℤ, pos, ◌≢◌, ◌==◌, ◌+ℤ◌, ◌*ℤ◌, unsigned_abs, if◌then◌else◌}
use Rattle.algebra.specs.Sums.{sum_to}
use Rattle.algebra.proofs.SumsLemmas.{sum_to_ext}
use Rattle.term_store.specs.declared.term.Term.{Term}
use Rattle.tableau.specs.Programs.{last_column}
use Rattle.tableau.specs.Tableaux.{IsRow, IsColumn, standing, summand, rest, row_at}
use Rattle.tableau.specs.Exchanges.{IsOutside, IsEligible, IsGoodAt}
use Rattle.tableau.specs.Ends.{IsEmptyRow}
use Rattle.tableau.specs.Operations.{IsOutOfRange}
use Rattle.tableau.specs.declared.bound.Bound.{Bound}
use Rattle.tableau.specs.declared.bound.Bound.TheVariants.{Lower, Upper}
use Rattle.tableau.specs.declared.op.Op.TheVariants.{Value}
use Rattle.sparse_rows.specs.Lines.{entry_of, IsLine}
use Rattle.sparse_rows.specs.Sums.{meaning_at, standing_at, share}
use Rattle.sparse_rows.proofs.LinesLemmas.{entry_past}
use Rattle.simplex.specs.Givens.{given_of}
use Rattle.simplex.specs.States.{State, tableau_of, KeepsLaws}
use Rattle.simplex.specs.inside.Choices.{IsBroken, MayEnter, IsChosen, IsWideSum}
use Rattle.simplex.proofs.Ratios.{toward_some}
use Rattle.simplex.proofs.Breaks.{same_sign_at, opposite_sign_at}

same_or_not : (i k : ℕ) → (i ≡ k) ⊎ (i ≢ k)
same_or_not i k = grind arith

-- the bound at which a column stands
pub stands_same : {A : Type 0} (f : A → ℤ) (s : State A) → KeepsLaws f s → (j : ℕ) → 1 ≤ j → j ≤ last_column (given_of s.program) → standing_at f s.low s.high s.at_high j ≡ standing (tableau_of f s) j
stands_same f s h j first l =
    ap (λ x. cond (get_or s.at_high j false) x (meaning_at f s.low j)) (h.shape.highs j first l)
    ∙ ap (λ x. cond (get_or s.at_high j false) ((given_of s.program).high j) x) (h.shape.lows j first l)

lt_or_le : (a b : ℕ) → (a < b) ⊎ (b ≤ a)
lt_or_le a b = grind arith

head_entry : {A : Type 0} (f : A → ℤ) (t : Term A) (ts : List (Term A)) (j : ℕ) → t.column ≡ j → entry_of f (t ∷ ts) j ≡ f t.value
head_entry f t ts j e = grind arith

-- a line without an entry at column 0 begins behind it
from_one : {A : Type 0} (f : A → ℤ) (end : ℕ) (ts : List (Term A)) → 1 ≤ end → IsLine f 0 end ts → entry_of f ts 0 ≡ pos 0 → IsLine f 1 end ts
from_one f end [] some l z = some
from_one f end (t ∷ ts) some l z = ⊎_elim
    (λ (p : t.column < 1). let e : t.column ≡ 0 = omega arith in absurd (l.1.0 (sym (head_entry f t ts 0 e) ∙ z)))
    (λ (p : 1 ≤ t.column). (p, l.1))
    (lt_or_le t.column 1)

module _ {A : Type 0} (f : A → ℤ) (s : State A) (h : KeepsLaws f s) (i : ℕ) (row : IsRow (tableau_of f s) i) where
  abbrev pub line : List (Term A)
  line = get_or s.lines i []

  abbrev pub basic : ℕ
  basic = get_or s.basis i 0

  abbrev pub costs : List (Term A)
  costs = get_or s.lines 0 []

  last : length s.low ≡ last_column (given_of s.program) + 1
  last = h.shape.low

  basic_in : IsColumn (tableau_of f s) (get_or s.basis i 0)
  basic_in = h.laws.basis.column i row

  -- a row other than the cost row has no term at column 0
  pub line_first : IsLine f 1 (length s.low) (get_or s.lines i [])
  line_first = from_one f (length s.low) (get_or s.lines i []) (let e = last in omega arith) (h.shape.rising i row.1) (h.laws.rows.no_scale i row)

  pub same_standing : (j : ℕ) → 1 ≤ j → j ≤ last_column (given_of s.program) → standing_at f s.low s.high s.at_high j ≡ standing (tableau_of f s) j
  same_standing j first l =
      ap (λ x. cond (get_or s.at_high j false) x (meaning_at f s.low j)) (h.shape.highs j first l)
      ∙ ap (λ x. cond (get_or s.at_high j false) ((given_of s.program).high j) x) (h.shape.lows j first l)

  pub same_share : (j : ℕ) → 1 ≤ j → j ≤ last_column (given_of s.program) → share f (get_or s.lines i []) (get_or s.basis i 0) s.low s.high s.at_high j ≡ summand (tableau_of f s) i j
  same_share j first l = ap (λ x. if get_or s.basis i 0 == j then pos 0 else (entry_of f (get_or s.lines i []) j *ℤ x)) (same_standing j first l)

  pub same_sum : (j : ℕ) → j ≤ last_column (given_of s.program) → sum_to (share f (get_or s.lines i []) (get_or s.basis i 0) s.low s.high s.at_high) j ≡ sum_to (summand (tableau_of f s) i) j
  same_sum j l = sum_to_ext (share f (get_or s.lines i []) (get_or s.basis i 0) s.low s.high s.at_high) (summand (tableau_of f s) i) j (λ k first m. same_share k first (omega arith))

  pub same_rest : sum_to (share f (get_or s.lines i []) (get_or s.basis i 0) s.low s.high s.at_high) (length s.low - 1) ≡ rest (tableau_of f s) i
  same_rest =
      let e : length s.low - 1 ≡ last_column (given_of s.program) = (let l = last in omega arith) in
      ap (sum_to (share f (get_or s.lines i []) (get_or s.basis i 0) s.low s.high s.at_high)) e ∙ same_sum (last_column (given_of s.program)) (omega arith)

  row_with : (z m : ℤ) → z ≡ m → sum_to (share f (get_or s.lines i []) (get_or s.basis i 0) s.low s.high s.at_high) (length s.low - 1) +ℤ entry_of f (get_or s.lines i []) (get_or s.basis i 0) *ℤ z ≡ row_at (tableau_of f s) i m
  row_with z m e = ap (λ x. x +ℤ entry_of f (get_or s.lines i []) (get_or s.basis i 0) *ℤ z) same_rest ∙ ap (λ x. rest (tableau_of f s) i +ℤ entry_of f (get_or s.lines i []) (get_or s.basis i 0) *ℤ x) e

  pub outside_of_broken : (b : Bound) → IsBroken f (get_or s.lines i []) (get_or s.basis i 0) s.low s.high s.has_high s.at_high b → IsOutside (tableau_of f s) i b
  outside_of_broken Lower p = same_sign_at _ _ _ _ refl (row_with _ _ (h.shape.lows (get_or s.basis i 0) basic_in.0 basic_in.1)) p
  outside_of_broken Upper p = (sym (h.shape.bounded (get_or s.basis i 0) basic_in.0 basic_in.1) ∙ p.0, opposite_sign_at _ _ _ _ refl (row_with _ _ (h.shape.highs (get_or s.basis i 0) basic_in.0 basic_in.1)) p.1)

  pub broken_of_outside : (b : Bound) → IsOutside (tableau_of f s) i b → IsBroken f (get_or s.lines i []) (get_or s.basis i 0) s.low s.high s.has_high s.at_high b
  broken_of_outside Lower p = same_sign_at _ _ _ _ refl (sym (row_with _ _ (h.shape.lows (get_or s.basis i 0) basic_in.0 basic_in.1))) p
  broken_of_outside Upper p = (h.shape.bounded (get_or s.basis i 0) basic_in.0 basic_in.1 ∙ p.0, opposite_sign_at _ _ _ _ refl (sym (row_with _ _ (h.shape.highs (get_or s.basis i 0) basic_in.0 basic_in.1))) p.1)

  pub enters_of_eligible : (b : Bound) (j : ℕ) → IsEligible (tableau_of f s) i b j → MayEnter f (get_or s.lines i []) (get_or s.basis i 0) s.low s.high s.has_high s.at_high b j
  enters_of_eligible b j e = record {
    other = e.nonbasic i row;
    movable = λ has same. e.movable (sym (h.shape.bounded j e.column.0 e.column.1) ∙ has) (sym (h.shape.lows j e.column.0 e.column.1) ∙ (same ∙ h.shape.highs j e.column.0 e.column.1));
    toward = e.toward;
  }

  entry_column : (j : ℕ) → entry_of f (get_or s.lines i []) j ≢ pos 0 → IsColumn (tableau_of f s) j
  entry_column j some = (
    ⊎_elim
        (λ (l : j < 1). let z : j ≡ 0 = omega arith in absurd (some (ap (entry_of f (get_or s.lines i [])) z ∙ h.laws.rows.no_scale i row)))
        (λ (l : 1 ≤ j). l)
        (lt_or_le j 1),
    ⊎_elim
        (λ (l : j < length s.low). let e = last in omega arith)
        (λ (l : length s.low ≤ j). absurd (some (entry_past f 0 (length s.low) j (get_or s.lines i []) (h.shape.rising i row.1) l)))
        (lt_or_le j (length s.low)),
  )

  pub eligible_of_enters : (b : Bound) (j : ℕ) → MayEnter f (get_or s.lines i []) (get_or s.basis i 0) s.low s.high s.has_high s.at_high b j → IsEligible (tableau_of f s) i b j
  eligible_of_enters b j e =
      let some = toward_some b (get_or s.at_high j false) (entry_of f (get_or s.lines i []) j) (entry_of f (get_or s.lines i []) (get_or s.basis i 0)) e.toward in
      let column = entry_column j some in
      record {
        column = column;
        nonbasic = λ k k_row q. ⊎_elim
            (λ (p : i ≡ k). e.other (ap (λ x. get_or s.basis x 0) p ∙ q))
            (λ (p : i ≢ k). some (ap (entry_of f (get_or s.lines i [])) (sym q) ∙ h.laws.basis.alone i k row.1 k_row p))
            (same_or_not i k);
        movable = λ has same. e.movable (h.shape.bounded j column.0 column.1 ∙ has) (h.shape.lows j column.0 column.1 ∙ (same ∙ sym (h.shape.highs j column.0 column.1)));
        toward = e.toward;
      }

  pub empty_of_none : (b : Bound) → IsOutside (tableau_of f s) i b → ((j : ℕ) → MayEnter f (get_or s.lines i []) (get_or s.basis i 0) s.low s.high s.has_high s.at_high b j → ⊥) → IsEmptyRow (tableau_of f s) i b
  empty_of_none b outside none = record { row = row; outside = outside; none = λ j e. none j (enters_of_eligible b j e) }

  -- the chosen column is good where its cost entry isn't 0, or where the row comes first
  module _ (b : Bound) (outside : IsOutside (tableau_of f s) i b) (c : ℕ) (chosen : IsChosen f (get_or s.lines i []) (get_or s.basis i 0) s.low s.high s.has_high s.at_high (get_or s.lines 0 []) b c) where
    pub good_by_cost : entry_of f (get_or s.lines 0 []) c ≢ pos 0 → IsGoodAt (tableau_of f s) i c b
    good_by_cost some = record {
      row = row;
      outside = outside;
      eligible = eligible_of_enters b c chosen.enters;
      least = λ j e. chosen.least j (enters_of_eligible b j e);
      tie = inl some;
    }

    pub good_by_order : ((k : ℕ) (other : Bound) → IsRow (tableau_of f s) k → IsOutside (tableau_of f s) k other → get_or s.basis i 0 ≤ get_or s.basis k 0) → IsGoodAt (tableau_of f s) i c b
    good_by_order first = record {
      row = row;
      outside = outside;
      eligible = eligible_of_enters b c chosen.enters;
      least = λ j e. chosen.least j (enters_of_eligible b j e);
      tie = inr (record { row = first; column = λ j e at_most. chosen.first j (enters_of_eligible b j e) at_most });
    }

  pub wide_sum : (greatest j : ℕ) → 1 ≤ j → j < length s.low → IsWideSum f (get_or s.lines i []) (get_or s.basis i 0) s.low s.high s.has_high s.at_high greatest j → IsOutOfRange greatest (tableau_of f s) (Value i j)
  wide_sum greatest j first l w =
      let within : j ≤ last_column (given_of s.program) = (let e = last in omega arith) in
      named greatest j first within w
    where
      named : (greatest j : ℕ) → 1 ≤ j → j ≤ last_column (given_of s.program) → IsWideSum f (get_or s.lines i []) (get_or s.basis i 0) s.low s.high s.has_high s.at_high greatest j → IsOutOfRange greatest (tableau_of f s) (Value i j)
      named greatest j first m (inl (inl p)) = (summand (tableau_of f s) i j, record { row = row; column = (first, m); value = inl (inl refl) }, subst (λ (x : ℤ). greatest < unsigned_abs x) (same_share j first m) p)
      named greatest j first m (inl (inr p)) = (sum_to (summand (tableau_of f s) i) j, record { row = row; column = (first, m); value = inl (inr refl) }, subst (λ (x : ℤ). greatest < unsigned_abs x) (same_sum j m) p)
      named greatest j first m (inr (e, inl p)) = (
        entry_of f (get_or s.lines i []) (get_or s.basis i 0) *ℤ (given_of s.program).low j,
        record { row = row; column = (first, m); value = inr (sym e, inl refl) },
        subst (λ (x : ℤ). greatest < unsigned_abs (entry_of f (get_or s.lines i []) (get_or s.basis i 0) *ℤ x)) (ap (meaning_at f s.low) (sym e) ∙ h.shape.lows j first m) p,
      )
      named greatest j first m (inr (e, inr p)) = (
        entry_of f (get_or s.lines i []) (get_or s.basis i 0) *ℤ (given_of s.program).high j,
        record { row = row; column = (first, m); value = inr (sym e, inr (sym (h.shape.bounded j first m) ∙ (ap (λ x. get_or s.has_high x false) e ∙ p.0), refl)) },
        subst (λ (x : ℤ). greatest < unsigned_abs (entry_of f (get_or s.lines i []) (get_or s.basis i 0) *ℤ x)) (ap (meaning_at f s.high) (sym e) ∙ h.shape.highs j first m) p.1,
      )
