-- What an exchange in memory leaves is the result of the exchange, and a reached tableau again.
use Rattle.std.proofs.Common.{◌≡◌, ℕ, zero, suc, ◌≤◌, ◌<◌, ◌⊎◌, inl, inr, List, [], length, get_or, set, Bool, true, false, arith, ap, sym, ◌∙◌, refl, subst, ⊎_elim, get_or-set_same, get_or-set_other}
use Rattle.std.specs.Prelude.{ℤ, pos, ◌≢◌, ◌+ℤ◌, ◌-ℤ◌, ◌*ℤ◌, ◌≤ℤ◌, unsigned_abs}
use Rattle.std.proofs.lemmas.Int.{ints}
use Rattle.std.proofs.Math.ListN.{length-set}
use Rattle.algebra.proofs.Order.{int_eq_of_mul_left, int_mul_le_left, int_mul_le_left_neg}
use Rattle.term_store.specs.declared.term.Term.{Term}
use Rattle.programs.specs.Programs.{row_count, column_count}
use Rattle.tableau.specs.Programs.{Given, last_column, IsOrdered}
use Rattle.tableau.specs.Signs.{turned, IsSameSign, IsOppositeSign}
use Rattle.tableau.specs.Tableaux.{Tableau, IsRow, basic_entry, rest}
use Rattle.tableau.specs.Exchanges.{IsGoodAt, IsResultAt, IsOutside, IsToward, reduced}
use Rattle.tableau.specs.Laws.{HasLaws}
use Rattle.tableau.specs.declared.bound.Bound.{Bound}
use Rattle.tableau.specs.declared.bound.Bound.TheVariants.{Lower, Upper}
use Rattle.tableau.proofs.Results.{laws_of_result}
use Rattle.tableau.proofs.TrailsLemmas.{points_after}
use Rattle.tableau.proofs.SignsLemmas.{toward_lowers, lowers_some}
use Rattle.sparse_rows.specs.Lines.{entry_of}
use Rattle.simplex.specs.Givens.{given_of}
use Rattle.simplex.specs.States.{State, tableau_of, KeepsLaws}
use Rattle.simplex.specs.inside.Rows.{IsChangedRow, IsRestanding}

nat_le_or_lt : (a c : ℕ) → (a ≤ c) ⊎ (c < a)
nat_le_or_lt a c = grind arith

pub ordered_at : (g : Given) → IsOrdered g → (j : ℕ) → 1 ≤ j → j ≤ last_column g → g.has_high j ≡ true → g.low j ≤ℤ g.high j
ordered_at g ordered j first last has = ⊎_elim
    (λ (l : j ≤ g.columns). ordered.ordered j first l)
    (λ (l : g.columns < j). let e = ordered.fixed j l last has in omega (arith, ints))
    (nat_le_or_lt j g.columns)

crossed : (e r low high : ℤ) → low ≤ℤ high → IsSameSign e (r +ℤ e *ℤ low) → IsOppositeSign e (r +ℤ e *ℤ high) → ⊥
crossed e r low high l (inl p) (inl q) = let a = p.0 in let b = p.1 in let c = q.1 in let m = int_mul_le_left low high e (omega (arith, ints)) l in omega (arith, ints)
crossed e r low high l (inr p) (inr q) = let a = p.0 in let b = p.1 in let c = q.1 in let m = int_mul_le_left_neg low high e (omega (arith, ints)) l in omega (arith, ints)
crossed e r low high l (inl p) (inr q) = let a = p.0 in let b = q.0 in omega (arith, ints)
crossed e r low high l (inr p) (inl q) = let a = p.0 in let b = q.0 in omega (arith, ints)

-- the bound that a good exchange breaks is one
low_and_high : (t : Tableau) (i : ℕ) (b d : Bound) → HasLaws t → IsOrdered t.given → IsRow t i → IsOutside t i b → IsOutside t i d → b ≡ d
low_and_high t i Lower Lower laws ordered row p q = refl
low_and_high t i Upper Upper laws ordered row p q = refl
low_and_high t i Lower Upper laws ordered row p q = absurd (crossed (basic_entry t i) (rest t i) (t.given.low (t.basis i)) (t.given.high (t.basis i)) (ordered_at t.given ordered (t.basis i) (laws.basis.column i row).0 (laws.basis.column i row).1 q.0) p q.1)
low_and_high t i Upper Lower laws ordered row q p = absurd (crossed (basic_entry t i) (rest t i) (t.given.low (t.basis i)) (t.given.high (t.basis i)) (ordered_at t.given ordered (t.basis i) (laws.basis.column i row).0 (laws.basis.column i row).1 q.0) p q.1)

nonzero_times : (p a b : ℤ) (q : ℤ) → p ≢ pos 0 → a ≢ pos 0 → b ≡ pos 0 → pos (unsigned_abs p) *ℤ a -ℤ q *ℤ b ≢ pos 0
nonzero_times p a b q hp ha e z =
    let f : q *ℤ b ≡ pos 0 = ap (λ x. q *ℤ x) e ∙ omega (arith, ints) in
    ha (int_eq_of_mul_left a (pos 0) (pos (unsigned_abs p)) (λ n. hp (omega (arith, ints))) (omega (arith, ints)))

module _ (t : Tableau) (laws : HasLaws t) (i c : ℕ) (b : Bound) (good : IsGoodAt t i c b) where
  pub pivot_nonzero : t.entry i c ≢ pos 0
  pivot_nonzero = lowers_some b (t.at_high c) (t.entry i c) (basic_entry t i) (toward_lowers b (t.at_high c) (t.entry i c) (basic_entry t i) good.eligible.toward)

  -- each row that is reduced keeps an entry
  pub reduced_some : (k : ℕ) → k ≤ t.given.rows → k ≢ i → (j : ℕ) × (j ≤ last_column t.given) × (reduced t i c k j ≢ pos 0)
  reduced_some zero within differ = (
    0,
    omega arith,
    nonzero_times (t.entry i c) (t.entry 0 0) (t.entry i 0) (turned (t.entry i c) (t.entry 0 c)) pivot_nonzero
        (λ e. let s = laws.rows.scale in omega (arith, ints)) (laws.rows.no_scale i good.row),
  )
  reduced_some (suc k) within differ =
      let row : IsRow t (suc k) = (omega arith, within) in (
        t.basis (suc k),
        (laws.basis.column (suc k) row).1,
        nonzero_times (t.entry i c) (t.entry (suc k) (t.basis (suc k))) (t.entry i (t.basis (suc k))) (turned (t.entry i c) (t.entry (suc k) c)) pivot_nonzero
            (laws.basis.entry (suc k) row) (laws.basis.alone i (suc k) good.row.1 row (λ e. differ (sym e))),
      )

module _ {A : Type 0} (f : A → ℤ) (s : State A) (h : KeepsLaws f s) (lines : List (List (Term A))) (basis : List ℕ) (at_high : List Bool)
    (count : length lines ≡ length s.lines) (flags : length at_high ≡ length s.at_high)
    (i c : ℕ) (b : Bound) (good : IsGoodAt (tableau_of f s) i c b) (entered : basis ≡ set s.basis i c)
    (rows : (k : ℕ) → k < length s.lines → IsChangedRow f i c (length s.low) k (get_or s.lines i []) (get_or s.lines k []) (get_or lines k []))
    (restanding : IsRestanding f (column_count s.program) (get_or s.basis i 0) c (get_or s.lines i []) (get_or lines 0 []) s.at_high at_high) where
  abbrev pub changed : State A
  changed = record { program = s.program; lines = lines; low = s.low; high = s.high; has_high = s.has_high; basis = basis; at_high = at_high }

  in_lines : (k : ℕ) → k ≤ row_count s.program → k < length s.lines
  in_lines k l = let e = h.shape.lines in omega arith

  i_in : i < length s.basis
  i_in = let e = h.shape.basis in let m = in_lines i good.row.1 in omega arith

  bound_tells : IsToward b (get_or s.at_high c false) (entry_of f (get_or s.lines i []) c) (entry_of f (get_or s.lines i []) (get_or s.basis i 0))
  bound_tells = good.eligible.toward

  at_leaving : (j : ℕ) → j ≡ get_or s.basis i 0 → j ≤ column_count s.program → get_or restanding.middle j false ≡ restanding.upper
  at_leaving j same last = ap (λ x. get_or restanding.middle x false) same ∙ restanding.stood.leaves (subst (λ (x : ℕ). x ≤ column_count s.program) same last)

  not_true : (x : Bool) → (x ≡ true → ⊥) → x ≡ false
  not_true true false_true = absurd (false_true refl)
  not_true false false_true = refl

  pub changed_result : IsResultAt (tableau_of f s) i c b (tableau_of f changed)
  changed_result = record {
    given = refl;
    rows = λ k within. let r = rows k (in_lines k within) in record {
      same = λ which j l. ap (λ ts. entry_of f ts j) (r.same which);
      divided = λ differ some. r.divided (differ, some) (last_column (given_of s.program)) (sym h.shape.low);
    };
    entering = ap (λ xs. get_or xs i 0) entered ∙ get_or-set_same s.basis i c 0 i_in;
    basis = λ k row differ. ap (λ xs. get_or xs k 0) entered ∙ get_or-set_other s.basis i k c 0 differ;
    standing = λ j first last. record {
      above = λ p. restanding.restood.above j last p;
      below = λ p. restanding.restood.below j last p;
      stays = λ z differ. restanding.restood.stays j last z ∙ restanding.stood.stays j differ;
      breaks_low = λ z same is_low. restanding.restood.stays j last z ∙ (at_leaving j same last ∙ not_true restanding.upper (λ e. let u = (restanding.breaks b bound_tells).0 e in cc));
      breaks_high = λ z same is_high. restanding.restood.stays j last z ∙ (at_leaving j same last ∙ (restanding.breaks b bound_tells).1 is_high);
    };
    slacks_low = λ j first last. restanding.restood.slacks j first ∙ (restanding.stood.slacks j first ∙ h.laws.signs.slacks_low j first last);
  }

  -- whichever bound is said to be broken, since there is one
  pub changed_any : (d : Bound) → IsOutside (tableau_of f s) i d → IsResultAt (tableau_of f s) i c d (tableau_of f changed)
  changed_any d outside = subst (λ (x : Bound). IsResultAt (tableau_of f s) i c x (tableau_of f changed)) (low_and_high (tableau_of f s) i b d h.laws h.ordered good.row good.outside outside) changed_result

  pub changed_reached : KeepsLaws f changed
  changed_reached = record {
    shape = record {
      lines = count ∙ h.shape.lines;
      low = h.shape.low;
      high = h.shape.high;
      has_high = h.shape.has_high;
      basis = ap length entered ∙ (length-set s.basis i c ∙ (h.shape.basis ∙ sym count));
      at_high = flags ∙ h.shape.at_high;
      rising = λ k l. (rows k (in_lines k l)).line;
      lows = h.shape.lows;
      highs = h.shape.highs;
      bounded = h.shape.bounded;
      few = h.shape.few;
    };
    ordered = h.ordered;
    laws = laws_of_result (tableau_of f s) i c b (tableau_of f changed) h.laws h.ordered good changed_result;
    points = λ y zeros. h.points y ((points_after (tableau_of f s) (record { row = i; col = c }) (tableau_of f changed) h.laws h.ordered (b, good) changed_any y).1 zeros);
  }
