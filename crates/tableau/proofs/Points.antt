-- The points that make all rows of a reached tableau 0 are those whose slacks are the values of the original rows.
use Rattle.std.proofs.Common.{◌≡◌, ℕ, ◌+◌, ◌≤◌, inl, arith, ap, sym, ◌∙◌, refl, subst, ⊎_elim, Bool}
use Rattle.std.specs.Prelude.{ℤ, pos, ◌-ℤ◌, ◌*ℤ◌, ◌≢◌, unsigned_abs}
use Rattle.std.proofs.lemmas.Int.{ints}
use Rattle.algebra.specs.Sums.{sum_to}
use Rattle.algebra.proofs.Products.{int_mul_assoc}
use Rattle.algebra.proofs.Order.{int_eq_of_mul_left}
use Rattle.algebra.proofs.SumsLemmas.{sum_to_ext, sum_to_split, sum_to_only, sum_to_mul_left}
use Rattle.tableau.specs.Programs.{Given, last_column, row_value, cost_value, HasSlacks, IsOrdered}
use Rattle.tableau.specs.Signs.{turned}
use Rattle.tableau.specs.Tableaux.{Tableau, IsStart}
use Rattle.tableau.specs.Exchanges.{IsGoodAt, IsResultAt, IsDivided, reduced}
use Rattle.tableau.specs.Laws.{MakesRowsZero, HasLaws}
use Rattle.tableau.specs.declared.bound.Bound.{Bound}
use Rattle.tableau.proofs.Lines.{combination_at, scaled_sums}
use Rattle.tableau.proofs.Results.{IsSame, IsNew, row_cases, pivot_some}

-- the rows of the start are 0 at x: each slack is the value of its row
pub slacks_at_start : (g : Given) (t : Tableau) (x : ℕ → ℤ) → IsStart g t → MakesRowsZero t x → HasSlacks g x
slacks_at_start g t x h zeros i first last =
    let own = zeros i (first, subst (λ (y : Given). i ≤ y.rows) (sym h.given) last) in
    let all : sum_to (λ j. t.entry i j *ℤ x j) (last_column g) ≡ pos 0 = subst (λ (y : Given). sum_to (λ j. t.entry i j *ℤ x j) (last_column y) ≡ pos 0) h.given own in
    let split = sum_to_split (λ j. t.entry i j *ℤ x j) g.columns g.rows in
    let left : sum_to (λ j. t.entry i j *ℤ x j) g.columns ≡ row_value g i x =
    sum_to_ext (λ j. t.entry i j *ℤ x j) (λ j. g.coefficient i j *ℤ x j) g.columns (λ j a b. ap (λ y. y *ℤ x j) (h.coefficients i j first last a b)) in
    let right : sum_to (λ k. t.entry i (g.columns + k) *ℤ x (g.columns + k)) g.rows ≡ t.entry i (g.columns + i) *ℤ x (g.columns + i) =
    sum_to_only (λ k. t.entry i (g.columns + k) *ℤ x (g.columns + k)) i g.rows first last
    (λ k a b differ. ap (λ y. y *ℤ x (g.columns + k)) (h.other_slack i k first last a b (λ e. differ (sym e))) ∙ omega (arith, ints)) in
    let slack = ap (λ y. y *ℤ x (g.columns + i)) (h.slack i first last) in
    omega (arith, ints)

-- where each slack is the value of its row, every row of a tableau with the laws is 0
pub zero_where_slacks : (t : Tableau) (x : ℕ → ℤ) → HasLaws t → HasSlacks t.given x → MakesRowsZero t x
zero_where_slacks t x laws slacks i row =
    combination_at t.given (t.entry i) x (laws.rows.combinations i row.1) slacks
    ∙ (ap (λ y. y *ℤ cost_value t.given x) (laws.rows.no_scale i row) ∙ omega (arith, ints))

no_product : (p q a b : ℤ) → p ≢ pos 0 → p *ℤ a -ℤ q *ℤ b ≡ pos 0 → b ≡ pos 0 → a ≡ pos 0
no_product p q a b some e none =
    let f = ap (λ y. q *ℤ y) none in
    int_eq_of_mul_left a (pos 0) p some (omega (arith, ints))

module _ (t : Tableau) (laws : HasLaws t) (ordered : IsOrdered t.given) (i c : ℕ) (b : Bound) (good : IsGoodAt t i c b)
    (entry : ℕ → ℕ → ℤ) (basis : ℕ → ℕ) (at_high : ℕ → Bool)
    (result : IsResultAt t i c b (record { given = t.given; entry = entry; basis = basis; at_high = at_high })) where
  -- a row that was reduced and divided, at a point
  divided_sum : (k : ℕ) (x : ℕ → ℤ) (d : IsDivided (last_column t.given) (reduced t i c k) (entry k))
      → d.divisor *ℤ sum_to (λ j. entry k j *ℤ x j) (last_column t.given)
      ≡ pos (unsigned_abs (t.entry i c)) *ℤ sum_to (λ j. t.entry k j *ℤ x j) (last_column t.given)
      -ℤ turned (t.entry i c) (t.entry k c) *ℤ sum_to (λ j. t.entry i j *ℤ x j) (last_column t.given)
  divided_sum k x d =
      sym (sum_to_mul_left d.divisor (λ j. entry k j *ℤ x j) (last_column t.given))
      ∙ (sum_to_ext (λ j. d.divisor *ℤ (entry k j *ℤ x j)) (λ j. reduced t i c k j *ℤ x j) (last_column t.given)
      (λ j a z. sym (int_mul_assoc d.divisor (entry k j) (x j)) ∙ ap (λ y. y *ℤ x j) (sym (d.each j z)))
      ∙ scaled_sums (pos (unsigned_abs (t.entry i c))) (turned (t.entry i c) (t.entry k c)) (t.entry k) (t.entry i) x (last_column t.given))

  same_sum : (k : ℕ) (x : ℕ → ℤ) → ((j : ℕ) → j ≤ last_column t.given → entry k j ≡ t.entry k j)
      → sum_to (λ j. entry k j *ℤ x j) (last_column t.given) ≡ sum_to (λ j. t.entry k j *ℤ x j) (last_column t.given)
  same_sum k x h = sum_to_ext (λ j. entry k j *ℤ x j) (λ j. t.entry k j *ℤ x j) (last_column t.given) (λ j a z. ap (λ y. y *ℤ x j) (h j z))

  own_same : (x : ℕ → ℤ) → sum_to (λ j. entry i j *ℤ x j) (last_column t.given) ≡ sum_to (λ j. t.entry i j *ℤ x j) (last_column t.given)
  own_same x = same_sum i x ((result.rows i good.row.1).same (inl refl))

  pub zeros_forth : (x : ℕ → ℤ) → MakesRowsZero t x → MakesRowsZero (record { given = t.given; entry = entry; basis = basis; at_high = at_high }) x
  zeros_forth x zeros k row = ⊎_elim
      (λ (h : IsSame t laws ordered i c b good entry basis at_high result k). same_sum k x h.1 ∙ zeros k row)
      (λ (h : IsNew t laws ordered i c b good entry basis at_high result k).
      let d = h.2 in
      let e = divided_sum k x d in
      let own = ap (λ y. pos (unsigned_abs (t.entry i c)) *ℤ y) (zeros k row) in
      let other = ap (λ y. turned (t.entry i c) (t.entry k c) *ℤ y) (zeros i good.row) in
      int_eq_of_mul_left (sum_to (λ j. entry k j *ℤ x j) (last_column t.given)) (pos 0) d.divisor (λ z. let l = d.positive in omega (arith, ints)) (omega (arith, ints)))
      (row_cases t laws ordered i c b good entry basis at_high result k row.1)

  pub zeros_back : (x : ℕ → ℤ) → MakesRowsZero (record { given = t.given; entry = entry; basis = basis; at_high = at_high }) x → MakesRowsZero t x
  zeros_back x zeros k row = ⊎_elim
      (λ (h : IsSame t laws ordered i c b good entry basis at_high result k). sym (same_sum k x h.1) ∙ zeros k row)
      (λ (h : IsNew t laws ordered i c b good entry basis at_high result k).
      let d = h.2 in
      let e = divided_sum k x d in
      let own = ap (λ y. d.divisor *ℤ y) (zeros k row) in
      no_product (pos (unsigned_abs (t.entry i c))) (turned (t.entry i c) (t.entry k c))
      (sum_to (λ j. t.entry k j *ℤ x j) (last_column t.given)) (sum_to (λ j. t.entry i j *ℤ x j) (last_column t.given))
      (λ z. pivot_some t laws ordered i c b good entry basis at_high result (omega (arith, ints)))
      (omega (arith, ints))
      (sym (own_same x) ∙ zeros i good.row))
      (row_cases t laws ordered i c b good entry basis at_high result k row.1)
