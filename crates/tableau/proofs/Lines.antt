-- Lines that are combinations of the original rows: they stay so when they are reduced and divided, and a point whose slacks are
-- the values of its rows makes such a line its scale times the cost.
use Rattle.std.proofs.Common.{◌≡◌, ℕ, ◌+◌, ◌≤◌, arith, ap, sym, ◌∙◌}
use Rattle.std.specs.Prelude.{ℤ, pos, ◌+ℤ◌, ◌-ℤ◌, ◌*ℤ◌, ◌≢◌}
use Rattle.std.proofs.lemmas.Int.{ints}
use Rattle.algebra.specs.Sums.{sum_to}
use Rattle.algebra.proofs.Products.{mults, int_mul_assoc}
use Rattle.algebra.proofs.Order.{int_eq_of_mul_left}
use Rattle.algebra.proofs.SumsLemmas.{sum_to_ext, sum_to_sub, sum_to_mul_left, sum_to_mul_right, sum_to_split, sum_to_swap}
use Rattle.tableau.specs.Programs.{Given, last_column, row_value, cost_value, HasSlacks}
use Rattle.tableau.specs.Laws.{IsCombination}

-- p times a product less q times a product
pub scaled_products : (p q v w a : ℤ) → (p *ℤ v -ℤ q *ℤ w) *ℤ a ≡ p *ℤ (v *ℤ a) -ℤ q *ℤ (w *ℤ a)
scaled_products p q v w a = simp mults (omega (arith, ints))

-- the same for sums
pub scaled_sums : (p q : ℤ) (v w a : ℕ → ℤ) (n : ℕ)
    → sum_to (λ i. (p *ℤ v i -ℤ q *ℤ w i) *ℤ a i) n ≡ p *ℤ sum_to (λ i. v i *ℤ a i) n -ℤ q *ℤ sum_to (λ i. w i *ℤ a i) n
scaled_sums p q v w a n =
    sum_to_ext (λ i. (p *ℤ v i -ℤ q *ℤ w i) *ℤ a i) (λ i. p *ℤ (v i *ℤ a i) -ℤ q *ℤ (w i *ℤ a i)) n
    (λ k low high. scaled_products p q (v k) (w k) (a k))
    ∙ (sum_to_sub (λ i. p *ℤ (v i *ℤ a i)) (λ i. q *ℤ (w i *ℤ a i)) n
    ∙ (ap (λ x. x -ℤ sum_to (λ i. q *ℤ (w i *ℤ a i)) n) (sum_to_mul_left p (λ i. v i *ℤ a i) n)
    ∙ ap (λ x. p *ℤ sum_to (λ i. v i *ℤ a i) n -ℤ x) (sum_to_mul_left q (λ i. w i *ℤ a i) n)))

combined : (p q v w c s t : ℤ) → p *ℤ (v *ℤ c -ℤ s) -ℤ q *ℤ (w *ℤ c -ℤ t) ≡ (p *ℤ v -ℤ q *ℤ w) *ℤ c -ℤ (p *ℤ s -ℤ q *ℤ t)
combined p q v w c s t = simp mults (omega (arith, ints))

-- a combination of two combinations is one
pub combination_reduced : (g : Given) (p q : ℤ) (v w : ℕ → ℤ) → IsCombination g v → IsCombination g w → IsCombination g (λ j. p *ℤ v j -ℤ q *ℤ w j)
combination_reduced g p q v w hv hw j low high =
    let s = sum_to (λ i. v (g.columns + i) *ℤ g.coefficient i j) g.rows in
    let t = sum_to (λ i. w (g.columns + i) *ℤ g.coefficient i j) g.rows in
    ap (λ x. p *ℤ x -ℤ q *ℤ w j) (hv j low high)
    ∙ (ap (λ x. p *ℤ (v 0 *ℤ g.cost j -ℤ s) -ℤ q *ℤ x) (hw j low high)
    ∙ (combined p q (v 0) (w 0) (g.cost j) s t
    ∙ ap (λ x. (p *ℤ v 0 -ℤ q *ℤ w 0) *ℤ g.cost j -ℤ x)
    (sym (scaled_sums p q (λ i. v (g.columns + i)) (λ i. w (g.columns + i)) (λ i. g.coefficient i j) g.rows))))

divided_products : (d v c s : ℤ) → d *ℤ v *ℤ c -ℤ d *ℤ s ≡ d *ℤ (v *ℤ c -ℤ s)
divided_products d v c s = simp mults (omega (arith, ints))

-- a line whose multiple is a combination is one
pub combination_divided : (g : Given) (d : ℤ) (from to : ℕ → ℤ) → d ≢ pos 0
    → ((j : ℕ) → j ≤ last_column g → from j ≡ d *ℤ to j) → IsCombination g from → IsCombination g to
combination_divided g d from to some each h j low high =
    let s = sum_to (λ i. to (g.columns + i) *ℤ g.coefficient i j) g.rows in
    let sums : sum_to (λ i. from (g.columns + i) *ℤ g.coefficient i j) g.rows ≡ d *ℤ s =
    sum_to_ext (λ i. from (g.columns + i) *ℤ g.coefficient i j) (λ i. d *ℤ (to (g.columns + i) *ℤ g.coefficient i j)) g.rows
    (λ k a b. ap (λ x. x *ℤ g.coefficient k j) (each (g.columns + k) (omega arith)) ∙ int_mul_assoc d (to (g.columns + k)) (g.coefficient k j))
    ∙ sum_to_mul_left d (λ i. to (g.columns + i) *ℤ g.coefficient i j) g.rows in
    int_eq_of_mul_left (to j) (to 0 *ℤ g.cost j -ℤ s) d some
    (sym (each j (omega arith))
    ∙ (h j low high
    ∙ (ap (λ x. x *ℤ g.cost j -ℤ sum_to (λ i. from (g.columns + i) *ℤ g.coefficient i j) g.rows) (each 0 (omega arith))
    ∙ (ap (λ x. d *ℤ to 0 *ℤ g.cost j -ℤ x) sums
    ∙ divided_products d (to 0) (g.cost j) s))))

-- lines with the same entries are combinations alike
pub combination_same : (g : Given) (from to : ℕ → ℤ) → ((j : ℕ) → j ≤ last_column g → to j ≡ from j) → IsCombination g from → IsCombination g to
combination_same g from to each h j low high =
    each j (omega arith)
    ∙ (h j low high
    ∙ (ap (λ x. x *ℤ g.cost j -ℤ sum_to (λ i. from (g.columns + i) *ℤ g.coefficient i j) g.rows) (sym (each 0 (omega arith)))
    ∙ ap (λ x. to 0 *ℤ g.cost j -ℤ x)
    (sum_to_ext (λ i. from (g.columns + i) *ℤ g.coefficient i j) (λ i. to (g.columns + i) *ℤ g.coefficient i j) g.rows
    (λ k a b. ap (λ x. x *ℤ g.coefficient k j) (sym (each (g.columns + k) (omega arith)))))))

times_sub : (z c s x : ℤ) → (z *ℤ c -ℤ s) *ℤ x ≡ z *ℤ (c *ℤ x) -ℤ s *ℤ x
times_sub z c s x = simp mults (omega (arith, ints))

-- a sum over structural columns of sums over rows, the rows taken first
rows_first : (g : Given) (v : ℕ → ℤ) (x : ℕ → ℤ)
    → sum_to (λ j. sum_to (λ i. v (g.columns + i) *ℤ g.coefficient i j) g.rows *ℤ x j) g.columns
    ≡ sum_to (λ i. v (g.columns + i) *ℤ row_value g i x) g.rows
rows_first g v x =
    sum_to_ext (λ j. sum_to (λ i. v (g.columns + i) *ℤ g.coefficient i j) g.rows *ℤ x j)
    (λ j. sum_to (λ i. v (g.columns + i) *ℤ (g.coefficient i j *ℤ x j)) g.rows) g.columns
    (λ j a b. sym (sum_to_mul_right (x j) (λ i. v (g.columns + i) *ℤ g.coefficient i j) g.rows)
    ∙ sum_to_ext (λ i. v (g.columns + i) *ℤ g.coefficient i j *ℤ x j) (λ i. v (g.columns + i) *ℤ (g.coefficient i j *ℤ x j)) g.rows
    (λ i c d. int_mul_assoc (v (g.columns + i)) (g.coefficient i j) (x j)))
    ∙ (sum_to_swap (λ j i. v (g.columns + i) *ℤ (g.coefficient i j *ℤ x j)) g.columns g.rows
    ∙ sum_to_ext (λ i. sum_to (λ j. v (g.columns + i) *ℤ (g.coefficient i j *ℤ x j)) g.columns) (λ i. v (g.columns + i) *ℤ row_value g i x) g.rows
    (λ i a b. sum_to_mul_left (v (g.columns + i)) (λ j. g.coefficient i j *ℤ x j) g.columns))

-- over its structural columns alone a combination is its scale times the cost less its slack entries times the values of the rows
pub combination_value : (g : Given) (v : ℕ → ℤ) (x : ℕ → ℤ) → IsCombination g v
    → sum_to (λ j. v j *ℤ x j) g.columns ≡ v 0 *ℤ cost_value g x -ℤ sum_to (λ i. v (g.columns + i) *ℤ row_value g i x) g.rows
combination_value g v x h =
    let s = λ (j : ℕ). sum_to (λ i. v (g.columns + i) *ℤ g.coefficient i j) g.rows in
    sum_to_ext (λ j. v j *ℤ x j) (λ j. v 0 *ℤ (g.cost j *ℤ x j) -ℤ s j *ℤ x j) g.columns
    (λ j a b. ap (λ y. y *ℤ x j) (h j a b) ∙ times_sub (v 0) (g.cost j) (s j) (x j))
    ∙ (sum_to_sub (λ j. v 0 *ℤ (g.cost j *ℤ x j)) (λ j. s j *ℤ x j) g.columns
    ∙ (ap (λ y. y -ℤ sum_to (λ j. s j *ℤ x j) g.columns) (sum_to_mul_left (v 0) (λ j. g.cost j *ℤ x j) g.columns)
    ∙ ap (λ y. v 0 *ℤ cost_value g x -ℤ y) (rows_first g v x)))

-- at a point whose slacks are the values of its rows a combination is its scale times the cost
pub combination_at : (g : Given) (v : ℕ → ℤ) (x : ℕ → ℤ) → IsCombination g v → HasSlacks g x
    → sum_to (λ j. v j *ℤ x j) (last_column g) ≡ v 0 *ℤ cost_value g x
combination_at g v x h slacks =
    let all = sum_to_split (λ j. v j *ℤ x j) g.columns g.rows in
    let first = combination_value g v x h in
    let second = sum_to_ext (λ i. v (g.columns + i) *ℤ x (g.columns + i)) (λ i. v (g.columns + i) *ℤ row_value g i x) g.rows
    (λ i a b. ap (λ y. v (g.columns + i) *ℤ y) (slacks i a b)) in
    all
    ∙ (ap (λ y. y +ℤ sum_to (λ i. v (g.columns + i) *ℤ x (g.columns + i)) g.rows) first
    ∙ (ap (λ y. v 0 *ℤ cost_value g x -ℤ sum_to (λ i. v (g.columns + i) *ℤ row_value g i x) g.rows +ℤ y) second
    ∙ omega (arith, ints)))
