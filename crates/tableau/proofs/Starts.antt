-- The start of a tableau has the laws.
use Rattle.std.proofs.Common.{◌≡◌, ℕ, ◌+◌, ◌-◌, ◌≤◌, ◌<◌, ◌⊎◌, arith, ap, sym, ◌∙◌, subst, ⊎_elim, true, false}
use Rattle.std.specs.Prelude.{ℤ, pos, ◌*ℤ◌, ◌<ℤ◌, ◌≢◌, int_lt}
use Rattle.std.proofs.lemmas.Int.{ints}
use Rattle.algebra.specs.Sums.{sum_to}
use Rattle.algebra.proofs.SumsLemmas.{sum_to_only, sum_to_zero}
use Rattle.tableau.specs.Programs.{Given}
use Rattle.tableau.specs.Tableaux.{Tableau, IsStart, IsRow}
use Rattle.tableau.specs.Laws.{IsCombination, HasRows, HasBasis, HasSigns, HasLaws}

-- two numbers are equal or not
pub same_or_not : (i k : ℕ) → (i ≡ k) ⊎ (i ≢ k)
same_or_not i k = grind arith

-- a number from n + 1 to n + m is n + i for a number i from 1 to m
pub behind : (n m j : ℕ) → n < j → j ≤ n + m → (i : ℕ) × (1 ≤ i) × (i ≤ m) × (j ≡ n + i)
behind n m j low high = (j - n, omega arith, omega arith, omega arith)

module _ (t : Tableau) (h : IsStart t.given t) where
  abbrev g : Given
  g = t.given

  cost_row : IsCombination g (t.entry 0)
  cost_row j low high =
      let s : sum_to (λ i. t.entry 0 (g.columns + i) *ℤ g.coefficient i j) g.rows ≡ pos 0 =
      sum_to_zero (λ i. t.entry 0 (g.columns + i) *ℤ g.coefficient i j) g.rows
      (λ i a b. ap (λ x. x *ℤ g.coefficient i j) (h.no_cost i a b) ∙ omega (arith, ints)) in
      let one = ap (λ x. x *ℤ g.cost j) h.scale in
      let c = h.costs j low high in
      omega (arith, ints)

  other_row : (i : ℕ) → 1 ≤ i → i ≤ g.rows → IsCombination g (t.entry i)
  other_row i first last j low high =
      let s : sum_to (λ k. t.entry i (g.columns + k) *ℤ g.coefficient k j) g.rows ≡ t.entry i (g.columns + i) *ℤ g.coefficient i j =
      sum_to_only (λ k. t.entry i (g.columns + k) *ℤ g.coefficient k j) i g.rows first last
      (λ k a b differ. ap (λ x. x *ℤ g.coefficient k j) (h.other_slack i k first last a b (λ e. differ (sym e))) ∙ omega (arith, ints)) in
      let own = ap (λ x. x *ℤ g.coefficient i j) (h.slack i first last) in
      let none = ap (λ x. x *ℤ g.cost j) (h.no_scale i first last) in
      let c = h.coefficients i j first last low high in
      omega (arith, ints)

  pub start_rows : HasRows t
  start_rows = record {
    combinations = λ i within. ⊎_elim
        (λ (e : i ≡ 0). let P : ℕ → Type 0 = λ k. IsCombination g (t.entry k) in subst P (sym e) cost_row)
        (λ (e : i ≢ 0). other_row i (omega arith) within)
        (same_or_not i 0);
    no_scale = λ i row. h.no_scale i row.0 row.1;
    scale = let e = h.scale in omega (arith, ints);
  }

  at_basis : (i k : ℕ) → IsRow t k → t.entry i (t.basis k) ≡ t.entry i (g.columns + k)
  at_basis i k row = ap (t.entry i) (h.basis k row.0 row.1)

  alone : (i k : ℕ) → i ≤ g.rows → IsRow t k → i ≢ k → t.entry i (t.basis k) ≡ pos 0
  alone i k within row differ = ⊎_elim
      (λ (e : i ≡ 0). at_basis i k row ∙ (ap (λ x. t.entry x (g.columns + k)) e ∙ h.no_cost k row.0 row.1))
      (λ (e : i ≢ 0). at_basis i k row ∙ h.other_slack i k (omega arith) within row.0 row.1 differ)
      (same_or_not i 0)

  pub start_basis : HasBasis t
  start_basis = record {
    column = λ i row. let e = h.basis i row.0 row.1 in let first = row.0 in let last = row.1 in (omega arith, omega arith);
    entry = λ i row zero_entry. let e = at_basis i i row in let s = h.slack i row.0 row.1 in omega (arith, ints);
    alone = alone;
  }

  below_true : (z : ℤ) → z <ℤ pos 0 → int_lt z (pos 0) ≡ true
  below_true z p = grind (arith, ints)

  above_false : (z : ℤ) → pos 0 <ℤ z → int_lt z (pos 0) ≡ false
  above_false z p = grind (arith, ints)

  pub start_signs : HasSigns t
  start_signs = record {
    above = λ j low high p. h.standing j low high ∙ above_false (g.cost j) (let c = h.costs j low high in omega (arith, ints));
    below = λ j low high p. h.standing j low high ∙ below_true (g.cost j) (let c = h.costs j low high in omega (arith, ints));
    slacks = λ j low high no_high.
        let b = behind g.columns g.rows j low high in
        let e = ap (t.entry 0) b.3 ∙ h.no_cost b.0 b.1 b.2 in
        omega (arith, ints);
    slacks_low = h.slacks_low;
  }

  pub start_laws : HasLaws t
  start_laws = record { rows = start_rows; basis = start_basis; signs = start_signs }

-- the start of any program has the laws
pub laws_of_start : (g : Given) (t : Tableau) → IsStart g t → HasLaws t
laws_of_start g t h = start_laws t (let P : Given → Type 0 = λ x. IsStart x t in subst P (sym h.given) h)
