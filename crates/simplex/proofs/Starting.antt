-- The tableau made of a program's numbers is its start, and a reached one.
use Rattle.std.proofs.Common.{◌≡◌, ℕ, zero, suc, ◌+◌, ◌-◌, ◌≤◌, ◌<◌, ◌⊎◌, inl, inr, List, [], ◌∷◌, length, get_or, take, replicate, Bool, true, false, arith, ap, sym, ◌∙◌, refl, subst, ⊎_elim}
use Rattle.std.specs.Prelude.{ℤ, pos, negsuc, ◌≢◌, ◌≤ℤ◌, int_lt, unsigned_abs}
use Rattle.std.proofs.lemmas.Int.{ints}
use Rattle.std.proofs.lemmas.List.{get_or-take, length-take}
use Rattle.algebra.specs.Numbered.{IsNumber}
use Rattle.algebra.proofs.NumberedLemmas.{numbered_in}
use Rattle.term_store.specs.declared.term.Term.{Term}
use Rattle.programs.specs.Programs.{Program, column_count, row_count, bounds_at, cost_at, row_at, coefficient}
use Rattle.programs.specs.Limits.{IsWithinLimits}
use Rattle.tableau.specs.Programs.{Given, IsOrdered}
use Rattle.tableau.specs.Tableaux.{IsStart}
use Rattle.tableau.specs.Operations.{IsWideNumber}
use Rattle.tableau.proofs.Starts.{laws_of_start}
use Rattle.tableau.proofs.Points.{slacks_at_start}
use Rattle.sparse_rows.specs.Lines.{entry_of, IsLine}
use Rattle.sparse_rows.specs.Sums.{meaning_at}
use Rattle.sparse_rows.proofs.LinesLemmas.{entry_below, entry_past, line_longer}
use Rattle.sparse_rows.proofs.Common.{entry_has}
use Rattle.simplex.specs.Givens.{given_of, low_at, high_at, has_high_at}
use Rattle.simplex.specs.States.{State, tableau_of, IsShaped, KeepsLaws}
use Rattle.simplex.specs.Starts.{start_entry, IsInRange}
use Rattle.simplex.specs.inside.Filled.{AreBounds, AreLines}
use Rattle.simplex.specs.inside.Kept.{IsKept}
use Rattle.simplex.proofs.Fills.{cost_entry_at, coefficient_entry, row_rises, rises_line}
use Rattle.simplex.proofs.Keeping.{state}

le_or_lt : (a b : ℕ) → (a ≤ b) ⊎ (b < a)
le_or_lt a b = grind arith

replicate_false : (n j : ℕ) → get_or (replicate n false) j false ≡ false
replicate_false zero j = refl
replicate_false (suc n) zero = refl
replicate_false (suc n) (suc j) = replicate_false n j

pub length_replicate : (n : ℕ) → length (replicate n false) ≡ n
length_replicate zero = refl
length_replicate (suc n) = ap suc (length_replicate n)

low_structural : (program : Program) (j : ℕ) → j ≤ column_count program → low_at program j ≡ (bounds_at program j).0
low_structural program j l = grind arith

high_structural : (program : Program) (j : ℕ) → j ≤ column_count program → high_at program j ≡ (bounds_at program j).1
high_structural program j l = grind arith

has_high_structural : (program : Program) (j : ℕ) → j ≤ column_count program → has_high_at program j ≡ true
has_high_structural program j l = grind arith

low_slack : (program : Program) (j : ℕ) → column_count program < j → low_at program j ≡ (row_at program (j - column_count program)).right
low_slack program j l = grind arith

high_slack : (program : Program) (j : ℕ) → column_count program < j → high_at program j ≡ (row_at program (j - column_count program)).right
high_slack program j l = grind arith

pub ordered_of : (program : Program) → IsWithinLimits program → IsOrdered (given_of program)
ordered_of program limits = record {
  ordered = λ j first last.
      let b = numbered_in (λ (bounds : ℤ × ℤ). bounds.0 ≤ℤ bounds.1) (pos 0, pos 0) program.bounds limits.ordered j (record { from_one = first; at_most = last }) in
      let l = low_structural program j last in
      let h = high_structural program j last in
      omega (arith, ints);
  bounded = λ j first last. has_high_structural program j last;
  fixed = λ j first last has. low_slack program j first ∙ sym (high_slack program j first);
}

module _ {A : Type 0} (f : A → ℤ) (program : Program) (limits : IsWithinLimits program) (lines : List (List (Term A))) (low high : List A) (has_high : List Bool) (basis : List ℕ) (at_high : List Bool)
    (bounds : AreBounds f program (column_count program + row_count program + 1) low high has_high) (rows : AreLines f program (row_count program) lines)
    (basis_count : length basis ≡ row_count program + 1) (slacks : (i : ℕ) → 1 ≤ i → i ≤ row_count program → get_or basis i 0 ≡ column_count program + i)
    (standing : at_high ≡ replicate (column_count program + row_count program + 1) false) where
  abbrev pub s : State A
  s = state f program low high has_high lines basis at_high

  n : ℕ
  n = column_count program

  front : (i : ℕ) → i ≤ row_count program → get_or (take (row_count program + 1) lines) i [] ≡ get_or lines i []
  front i l = get_or-take (row_count program + 1) lines i [] (omega arith)

  at : (i j : ℕ) → i ≤ row_count program → entry_of f (get_or (take (row_count program + 1) lines) i []) j ≡ entry_of f (get_or lines i []) j
  at i j l = ap (λ ts. entry_of f ts j) (front i l)

  flags : (j : ℕ) → get_or at_high j false ≡ false
  flags j = ap (λ hs. get_or hs j false) standing ∙ replicate_false (column_count program + row_count program + 1) j

  row_entry : (i j : ℕ) → 1 ≤ i → i ≤ row_count program → j < column_count program + row_count program + 1 → entry_of f (get_or (take (row_count program + 1) lines) i []) j ≡ start_entry program i j
  row_entry i j first last l = at i j last ∙ (rows.rows i first last).same j l

  start_other : (i j : ℕ) → column_count program + i ≢ j → start_entry program i j ≡ coefficient j (row_at program i).terms
  start_other i j e = grind arith

  start_slack : (i j : ℕ) → column_count program + i ≡ j → start_entry program i j ≡ negsuc 0
  start_slack i j e = grind arith

  number : (i : ℕ) → 1 ≤ i → i ≤ row_count program → IsNumber i (row_count program)
  number i first last = record { from_one = first; at_most = last }

  coefficient_none : (i j : ℕ) → 1 ≤ i → i ≤ row_count program → (j < 1) ⊎ (column_count program + 1 ≤ j) → coefficient j (row_at program i).terms ≡ pos 0
  coefficient_none i j first last which =
      let r = row_rises program limits i (number i first last) in
      coefficient_entry 0 (column_count program) j (row_at program i).terms r
      ∙ ⊎_elim
      (λ (l : j < 1). entry_below (λ z. z) 1 (column_count program + 1) j (row_at program i).terms (rises_line 0 (column_count program) (row_at program i).terms r) l)
      (λ (l : column_count program + 1 ≤ j). entry_past (λ z. z) 1 (column_count program + 1) j (row_at program i).terms (rises_line 0 (column_count program) (row_at program i).terms r) l)
      which

  cost_sign : (j : ℕ) → 1 ≤ j → j ≤ column_count program → int_lt (cost_at program j) (pos 0) ≡ false
  cost_sign j first last =
      let e = limits.costs in
      let c = numbered_in (λ (cost : ℤ). pos 0 ≤ℤ cost) (pos 0) program.costs limits.costs_from_zero j (record { from_one = first; at_most = omega arith }) in
      not_below (cost_at program j) c
    where
      not_below : (z : ℤ) → pos 0 ≤ℤ z → int_lt z (pos 0) ≡ false
      not_below z l = grind (arith, ints)

  pub started : IsStart (given_of program) (tableau_of f s)
  started = record {
    given = refl;
    scale = at 0 0 (omega arith) ∙ rows.costs.same 0 (omega arith);
    no_scale = λ i first last. row_entry i 0 first last (omega arith) ∙ (start_other i 0 (λ e. omega arith) ∙ coefficient_none i 0 first last (inl (omega arith)));
    costs = λ j first last. at 0 j (omega arith) ∙ (rows.costs.same j (omega arith) ∙ cost_entry_at program j first);
    no_cost = λ k first last. at 0 (column_count program + k) (omega arith) ∙ entry_past f 0 (column_count program + 1) (column_count program + k) (get_or lines 0 []) rows.costs.line (omega arith);
    coefficients = λ i j i_first i_last first last. row_entry i j i_first i_last (omega arith) ∙ start_other i j (λ e. omega arith);
    slack = λ i first last. row_entry i (column_count program + i) first last (omega arith) ∙ start_slack i (column_count program + i) refl;
    other_slack = λ i k i_first i_last first last differ.
        row_entry i (column_count program + k) i_first i_last (omega arith) ∙ (start_other i (column_count program + k) (λ e. differ (omega arith)) ∙ coefficient_none i (column_count program + k) i_first i_last (inr (omega arith)));
    basis = slacks;
    standing = λ j first last. flags j ∙ sym (cost_sign j first last);
    slacks_low = λ j first last. flags j;
  }

  pub shaped : IsShaped f s
  shaped = record {
    lines = length-take (row_count program + 1) lines ∙ (let m = rows.many in omega arith);
    low = bounds.low_count;
    high = bounds.high_count ∙ sym bounds.low_count;
    has_high = bounds.has_high_count ∙ sym bounds.low_count;
    basis = basis_count ∙ sym (length-take (row_count program + 1) lines ∙ (let m = rows.many in omega arith));
    at_high = ap length standing ∙ (length_replicate (column_count program + row_count program + 1) ∙ sym bounds.low_count);
    rising = λ i l.
        let P : List (Term A) → Type 0 = λ ts. IsLine f 0 (length low) ts in
        let e = bounds.low_count in
        subst P (sym (front i l)) (⊎_elim
        (λ (m : i ≤ 0). let z : 0 ≡ i = omega arith in
        subst (λ (k : ℕ). IsLine f 0 (length low) (get_or lines k [])) z (line_longer f 0 (column_count program + 1) (length low) (get_or lines 0 []) (omega arith) rows.costs.line))
        (λ (m : 0 < i). let first : 1 ≤ i = omega arith in
        line_longer f 0 (column_count program + row_count program + 1) (length low) (get_or lines i []) (omega arith) (rows.rows i first l).line)
        (le_or_lt i 0));
    lows = λ j first last. bounds.lows j first (omega arith);
    highs = λ j first last. bounds.highs j first (omega arith);
    bounded = λ j first last. bounds.bounded j first (omega arith);
    few = (let e = bounds.low_count in let r = limits.rows in let c = limits.columns in omega arith);
  }

  pub start_reached : KeepsLaws f s
  start_reached = record {
    shape = shaped;
    ordered = ordered_of program limits;
    laws = laws_of_start (given_of program) (tableau_of f s) started;
    points = λ y zeros. slacks_at_start (given_of program) (tableau_of f s) y started zeros;
  }

  pub start_kept : (count width room : ℕ) → count ≡ row_count program + 1 → length lines ≡ row_count program + 1 + (row_count program + 1) → width ≡ column_count program + row_count program + 1 → room ≡ column_count program + row_count program + 1
      → IsKept f s lines count width room
  start_kept count width room c l w r =
      let e = bounds.low_count in
      record { reached = start_reached; spare = omega arith; marked = c; wide = omega arith; cells = omega arith }

  -- every number of the program is in range, since a number of the type stands for it
  pub start_in_range : (greatest : ℕ) → ((x : A) → unsigned_abs (f x) ≤ greatest) → IsInRange greatest (given_of program)
  start_in_range greatest law i j z (inl h) =
      subst (λ (x : ℤ). unsigned_abs x ≤ greatest) (row_entry i j h.0 h.1 (let a = h.3 in omega arith) ∙ (start_other i j (λ e. let a = h.3 in let b = h.0 in omega arith) ∙ sym h.4)) (entry_in i j)
    where
      entry_in : (i j : ℕ) → unsigned_abs (entry_of f (get_or (take (row_count program + 1) lines) i []) j) ≤ greatest
      entry_in i j = entry_has f (λ x. unsigned_abs x ≤ greatest) (get_or (take (row_count program + 1) lines) i []) j (omega (arith, ints)) (λ k d l. law (get_or (get_or (take (row_count program + 1) lines) i []) k d).value)
  start_in_range greatest law i j z (inr (inl h)) =
      subst (λ (x : ℤ). unsigned_abs x ≤ greatest) (at 0 j (omega arith) ∙ (rows.costs.same j (let a = h.2 in omega arith) ∙ (cost_entry_at program j h.1 ∙ sym h.3)))
      (entry_has f (λ x. unsigned_abs x ≤ greatest) (get_or (take (row_count program + 1) lines) 0 []) j (omega (arith, ints)) (λ k d l. law (get_or (get_or (take (row_count program + 1) lines) 0 []) k d).value))
  start_in_range greatest law i j z (inr (inr h)) = ⊎_elim
      (λ (e : z ≡ low_at program j). subst (λ (x : ℤ). unsigned_abs x ≤ greatest) (bounds.lows j h.0 (let a = h.1 in omega arith) ∙ sym e) (number_in low j))
      (λ (e : (has_high_at program j ≡ true) × (z ≡ high_at program j)). subst (λ (x : ℤ). unsigned_abs x ≤ greatest) (bounds.highs j h.0 (let a = h.1 in omega arith) ∙ sym e.1) (number_in high j))
      h.3
    where
      number_in : (xs : List A) (j : ℕ) → unsigned_abs (meaning_at f xs j) ≤ greatest
      number_in [] j = omega (arith, ints)
      number_in (x ∷ xs) zero = law x
      number_in (x ∷ xs) (suc j) = number_in xs j

-- a number out of range isn't in range
pub not_in_range : (greatest : ℕ) (g : Given) (i j : ℕ) → IsWideNumber greatest g i j → IsInRange greatest g → ⊥
not_in_range greatest g i j wide all = let l = all i j wide.0 wide.1 in let m = wide.2 in omega arith
