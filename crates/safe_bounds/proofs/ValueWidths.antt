-- How great the numbers of a value can be, where scale and multipliers are at most k: k times the program's weight.
use Rattle.std.proofs.Common.{ℕ, zero, suc, ◌+◌, ◌*◌, ◌≤◌, List, [], ◌∷◌, arith}
use Rattle.std.specs.Prelude.{ℤ, ◌+ℤ◌, ◌*ℤ◌, unsigned_abs}
use Rattle.std.proofs.Math.Nat.{mul-add, mul_assoc, mul-le-mul_left, mul-le-mul_right}
use Rattle.std.proofs.lemmas.Int.{ints}
use Rattle.std.proofs.lemmas.List.Elements.{All-head, All-tail}
use Rattle.term_store.specs.declared.term.Term.{Term}
use Rattle.algebra.specs.Sums.{sum_to}
use Rattle.algebra.specs.Totals.{total_to}
use Rattle.algebra.specs.Numbered.{IsNumber}
use Rattle.algebra.proofs.TotalsLemmas.{total_to_mono, le_total_to}
use Rattle.algebra.proofs.Magnitudes.{unsigned_abs_add, unsigned_abs_sub, unsigned_abs_mul_le, unsigned_abs_min_le}
use Rattle.programs.specs.Programs.{Program, ProgramRow, column_count, bounds_at, cost_at, coefficient, entry}
use Rattle.programs.specs.Weights.{load_of_terms, load_of_rows, load_of_rights, reach, column_weight, weight}
use Rattle.safe_bounds.specs.inside.Drawn.{AreAtMost}
use Rattle.safe_bounds.specs.Values.{rights_value, combined, reduced_cost, column_value, value_of}

pub coefficient_load : (j : ℕ) (ts : List (Term ℤ)) → unsigned_abs (coefficient j ts) ≤ load_of_terms j ts
coefficient_load j [] = omega (arith, ints)
coefficient_load j (t ∷ ts) =
    let rest = coefficient_load j ts in
    omega (arith, unsigned_abs_add (entry j t) (coefficient j ts))

pub combined_width : (k j : ℕ) (rows : List ProgramRow) (ys : List ℤ) → AreAtMost k ys → unsigned_abs (combined j rows ys) ≤ k * load_of_rows j rows
combined_width k j [] ys h = omega (arith, ints)
combined_width k j (row ∷ rows) [] h = omega (arith, ints)
combined_width k j (row ∷ rows) (y ∷ ys) h =
    let here = unsigned_abs_mul_le y (coefficient j row.terms) k (load_of_terms j row.terms) (All-head (λ z. unsigned_abs z ≤ k) y ys h) (coefficient_load j row.terms) in
    let rest = combined_width k j rows ys (All-tail (λ z. unsigned_abs z ≤ k) y ys h) in
    omega (arith, unsigned_abs_add (y *ℤ coefficient j row.terms) (combined j rows ys), mul-add k (load_of_terms j row.terms) (load_of_rows j rows))

pub rights_width : (k : ℕ) (rows : List ProgramRow) (ys : List ℤ) → AreAtMost k ys → unsigned_abs (rights_value rows ys) ≤ k * load_of_rights rows
rights_width k [] ys h = omega (arith, ints)
rights_width k (row ∷ rows) [] h = omega (arith, ints)
rights_width k (row ∷ rows) (y ∷ ys) h =
    let here = unsigned_abs_mul_le y row.right k (unsigned_abs row.right) (All-head (λ z. unsigned_abs z ≤ k) y ys h) (omega arith) in
    let rest = rights_width k rows ys (All-tail (λ z. unsigned_abs z ≤ k) y ys h) in
    omega (arith, unsigned_abs_add (y *ℤ row.right) (rights_value rows ys), mul-add k (unsigned_abs row.right) (load_of_rights rows))

pub reduced_width : (k : ℕ) (program : Program) (scale : ℤ) (ys : List ℤ) (j : ℕ) → unsigned_abs scale ≤ k → AreAtMost k ys → unsigned_abs (reduced_cost program scale ys j) ≤ k * (load_of_rows j program.rows + unsigned_abs (cost_at program j))
reduced_width k program scale ys j s h =
    let cost = unsigned_abs_mul_le scale (cost_at program j) k (unsigned_abs (cost_at program j)) s (omega arith) in
    let pull = combined_width k j program.rows ys h in
    omega (
      arith,
      unsigned_abs_sub (scale *ℤ cost_at program j) (combined j program.rows ys),
      mul-add k (load_of_rows j program.rows) (unsigned_abs (cost_at program j)),
    )

-- a reduced cost times a bound
pub product_width : (k : ℕ) (program : Program) (scale : ℤ) (ys : List ℤ) (j : ℕ) (x : ℤ) → unsigned_abs scale ≤ k → AreAtMost k ys → unsigned_abs x ≤ reach (bounds_at program j) → unsigned_abs (reduced_cost program scale ys j *ℤ x) ≤ k * column_weight program j
product_width k program scale ys j x s h b =
    let load = load_of_rows j program.rows + unsigned_abs (cost_at program j) in
    let p = unsigned_abs_mul_le (reduced_cost program scale ys j) x (k * load) (reach (bounds_at program j)) (reduced_width k program scale ys j s h) b in
    omega (arith, mul_assoc k load (reach (bounds_at program j)))

pub column_width : (k : ℕ) (program : Program) (scale : ℤ) (ys : List ℤ) (j : ℕ) → unsigned_abs scale ≤ k → AreAtMost k ys → unsigned_abs (column_value program scale ys j) ≤ k * column_weight program j
column_width k program scale ys j s h =
    let low = (bounds_at program j).0 in
    let high = (bounds_at program j).1 in
    unsigned_abs_min_le (reduced_cost program scale ys j *ℤ low) (reduced_cost program scale ys j *ℤ high) (k * column_weight program j)
    (product_width k program scale ys j low s h (omega arith))
    (product_width k program scale ys j high s h (omega arith))

pub columns_width : (k : ℕ) (program : Program) (scale : ℤ) (ys : List ℤ) (n : ℕ) → unsigned_abs scale ≤ k → AreAtMost k ys → unsigned_abs (sum_to (column_value program scale ys) n) ≤ k * total_to (column_weight program) n
columns_width k program scale ys zero s h = omega (arith, ints)
columns_width k program scale ys (suc n) s h =
    let rest = columns_width k program scale ys n s h in
    let here = column_width k program scale ys (suc n) s h in
    omega (
      arith,
      unsigned_abs_add (sum_to (column_value program scale ys) n) (column_value program scale ys (suc n)),
      mul-add k (total_to (column_weight program) n) (column_weight program (suc n)),
    )

pub value_width : (k : ℕ) (program : Program) (scale : ℤ) (ys : List ℤ) → unsigned_abs scale ≤ k → AreAtMost k ys → unsigned_abs (value_of program scale ys) ≤ k * weight program
value_width k program scale ys s h =
    let rights = rights_width k program.rows ys h in
    let columns = columns_width k program scale ys (column_count program) s h in
    omega (
      arith,
      unsigned_abs_add (rights_value program.rows ys) (sum_to (column_value program scale ys) (column_count program)),
      mul-add k (total_to (column_weight program) (column_count program)) (load_of_rights program.rows),
    )

-- what has been summed up so far: the right sides, and the first m columns
pub part_width : (k : ℕ) (program : Program) (scale : ℤ) (ys : List ℤ) (m : ℕ) → unsigned_abs scale ≤ k → AreAtMost k ys → m ≤ column_count program → unsigned_abs (rights_value program.rows ys +ℤ sum_to (column_value program scale ys) m) ≤ k * weight program
part_width k program scale ys m s h l =
    let rights = rights_width k program.rows ys h in
    let columns = columns_width k program scale ys m s h in
    let more = mul-le-mul_left k (total_to_mono (column_weight program) m (column_count program) l) in
    omega (
      arith,
      unsigned_abs_add (rights_value program.rows ys) (sum_to (column_value program scale ys) m),
      mul-add k (total_to (column_weight program) (column_count program)) (load_of_rights program.rows),
    )

-- a column's reduced cost times the reach of its bounds
pub reduced_reach : (k : ℕ) (program : Program) (scale : ℤ) (ys : List ℤ) (j : ℕ) → unsigned_abs scale ≤ k → AreAtMost k ys → IsNumber j (column_count program) → unsigned_abs (reduced_cost program scale ys j) * reach (bounds_at program j) ≤ k * weight program
reduced_reach k program scale ys j s h n =
    let load = load_of_rows j program.rows + unsigned_abs (cost_at program j) in
    let here = mul-le-mul_right (reach (bounds_at program j)) (reduced_width k program scale ys j s h) in
    let most = le_total_to (column_weight program) j (column_count program) n.from_one n.at_most in
    let light : column_weight program j ≤ weight program = omega arith in
    omega (arith, mul_assoc k load (reach (bounds_at program j)), mul-le-mul_left k light)
