-- Weak duality: a value over its scale bounds the cost of every point.
use Rattle.std.proofs.Common.{◌≡◌, ℕ, zero, suc, List, [], ◌∷◌, length, arith, ap, sym, ◌∙◌, refl, subst}
use Rattle.std.specs.Prelude.{ℤ, pos, ◌+ℤ◌, ◌-ℤ◌, ◌*ℤ◌, ◌≤ℤ◌, ◌<ℤ◌}
use Rattle.std.specs.Int.{int_min}
use Rattle.std.specs.List.{All}
use Rattle.std.proofs.lemmas.Int.{ints}
use Rattle.std.proofs.lemmas.List.Elements.{All-head, All-tail}
use Rattle.term_store.specs.declared.side.Side.{Side}
use Rattle.term_store.specs.declared.side.Side.TheVariants.{Equal, AtLeast}
use Rattle.algebra.specs.Sums.{sum_to}
use Rattle.algebra.specs.Numbered.{numbered, IsNumber}
use Rattle.algebra.proofs.Products.{int_mul_add, int_add_mul, int_sub_mul, int_mul_assoc, int_mul_comm, int_mul_left_comm}
use Rattle.algebra.proofs.Order.{int_min_le_mul, int_min_mul, int_mul_le_left, int_mul_pos}
use Rattle.algebra.proofs.SumsLemmas.{sum_to_zero, sum_to_add, sum_to_sub, sum_to_ext, sum_to_le, sum_to_mul_left, sum_to_mul_right}
use Rattle.programs.specs.Programs.{Program, ProgramRow, column_count, empty_row, bounds_at, cost_at, coefficient}
use Rattle.programs.specs.Points.{numerator_at, value_at, Satisfies, MeetsRow, cost_share, cost_of_point}
use Rattle.programs.proofs.PointsLemmas.{value_by_columns}
use Rattle.safe_bounds.specs.Values.{rights_value, combined, reduced_cost, column_value, value_of, HasRightSigns}
use Rattle.safe_bounds.specs.Bounds.{BoundsCosts, HasNoPoint}

-- the sum over the rows of multiplier times the row's value at a point
abbrev rows_value : List ℤ → List ProgramRow → List ℤ → ℤ
rows_value point (row ∷ rows) (y ∷ ys) = y *ℤ value_at point row.terms +ℤ rows_value point rows ys
rows_value point _ _ = pos 0

-- ---- the rows

-- what a side asks, times a multiplier of the right sign
row_bound : (side : Side) (den y value right : ℤ) → (side ≡ AtLeast → pos 0 ≤ℤ y) → Satisfies side value (den *ℤ right) → (den *ℤ (y *ℤ right)) ≤ℤ (y *ℤ value)
row_bound Equal den y value right sign meets =
    let e : y *ℤ value ≡ den *ℤ (y *ℤ right) = ap (λ x. y *ℤ x) meets ∙ int_mul_left_comm y den right in
    omega (arith, ints)
row_bound AtLeast den y value right sign meets =
    let e : y *ℤ (den *ℤ right) ≡ den *ℤ (y *ℤ right) = int_mul_left_comm y den right in
    let h = int_mul_le_left (den *ℤ right) value y (sign refl) meets in
    omega (arith, ints)

abbrev HaveRightSigns : List ProgramRow → List ℤ → Type 0
HaveRightSigns rows ys = (i : ℕ) → IsNumber i (length rows) → (numbered empty_row rows i).side ≡ AtLeast → pos 0 ≤ℤ numbered (pos 0) ys i

signs_tail : (row : ProgramRow) (rows : List ProgramRow) (y : ℤ) (ys : List ℤ) → HaveRightSigns (row ∷ rows) (y ∷ ys) → HaveRightSigns rows ys
signs_tail row rows y ys signs zero n e = absurd (omega arith)
signs_tail row rows y ys signs (suc k) n e = signs (suc (suc k)) (record { from_one = omega arith; at_most = omega arith }) e

rights_bound : (den : ℤ) (point : List ℤ) (rows : List ProgramRow) (ys : List ℤ) → All (MeetsRow den point) rows → HaveRightSigns rows ys → (den *ℤ rights_value rows ys) ≤ℤ rows_value point rows ys
rights_bound den point [] ys meets signs = omega (arith, ints)
rights_bound den point (row ∷ rows) [] meets signs = omega (arith, ints)
rights_bound den point (row ∷ rows) (y ∷ ys) meets signs =
    let first = row_bound row.side den y (value_at point row.terms) row.right
    (signs 1 (record { from_one = omega arith; at_most = omega arith }))
    (All-head (MeetsRow den point) row rows meets) in
    let rest = rights_bound den point rows ys (All-tail (MeetsRow den point) row rows meets) (signs_tail row rows y ys signs) in
    omega (arith, ints, int_mul_add den (y *ℤ row.right) (rights_value rows ys))

-- ---- the columns

-- what the multipliers combine at each column, times the point, is what they make of the rows' values
combined_by_columns : (point : List ℤ) (rows : List ProgramRow) (ys : List ℤ) → sum_to (λ j. combined j rows ys *ℤ numerator_at point j) (length point) ≡ rows_value point rows ys
combined_by_columns point [] ys = sum_to_zero (λ j. pos 0 *ℤ numerator_at point j) (length point) (λ j low high. omega (arith, ints))
combined_by_columns point (row ∷ rows) [] = sum_to_zero (λ j. pos 0 *ℤ numerator_at point j) (length point) (λ j low high. omega (arith, ints))
combined_by_columns point (row ∷ rows) (y ∷ ys) =
    let x = numerator_at point in
    let rest = combined_by_columns point rows ys in
    let here = sum_to_mul_left y (λ j. coefficient j row.terms *ℤ x j) (length point) in
    let value = ap (λ v. y *ℤ v) (value_by_columns point row.terms) in
    let both = sum_to_add (λ j. y *ℤ (coefficient j row.terms *ℤ x j)) (λ j. combined j rows ys *ℤ x j) (length point) in
    let apart = sum_to_ext
    (λ j. (y *ℤ coefficient j row.terms +ℤ combined j rows ys) *ℤ x j)
    (λ j. y *ℤ (coefficient j row.terms *ℤ x j) +ℤ combined j rows ys *ℤ x j)
    (length point)
    (λ j low high.
    int_add_mul (y *ℤ coefficient j row.terms) (combined j rows ys) (x j)
    ∙ ap (λ v. v +ℤ combined j rows ys *ℤ x j) (int_mul_assoc y (coefficient j row.terms) (x j))) in
    omega (arith, ints)

-- a column's value, over the denominator, is at most its reduced cost times the numerator
column_bound : (r low high den x : ℤ) → pos 0 ≤ℤ den → (low *ℤ den) ≤ℤ x → x ≤ℤ (high *ℤ den) → (int_min (r *ℤ low) (r *ℤ high) *ℤ den) ≤ℤ (r *ℤ x)
column_bound r low high den x d p q =
    let least = int_min_le_mul r (low *ℤ den) (high *ℤ den) x p q in
    let e = int_min_mul (r *ℤ low) (r *ℤ high) den d in
    let lows = int_mul_assoc r low den in
    let highs = int_mul_assoc r high den in
    let same : int_min (r *ℤ low) (r *ℤ high) *ℤ den ≡ int_min (r *ℤ (low *ℤ den)) (r *ℤ (high *ℤ den)) = sym e ∙ ap (λ a. int_min a (r *ℤ high *ℤ den)) lows ∙ ap (λ a. int_min (r *ℤ (low *ℤ den)) a) highs in
    subst (λ a. a ≤ℤ (r *ℤ x)) (sym same) least

-- ---- both

-- weak duality, where the multipliers' signs are right
pub bounds_costs : (program : Program) (scale : ℤ) (mults : List ℤ) → HasRightSigns program mults → BoundsCosts program scale (value_of program scale mults)
bounds_costs program scale mults signs = record {
  each = λ den point one is_point.
      let n = column_count program in
      let x = numerator_at point in
      let size : length point ≡ n = is_point.in_bounds.columns in
      let d : pos 0 ≤ℤ den = omega (arith, ints) in
      let rows = rights_bound den point program.rows mults is_point.meets signs.each in
      let pulls = ap (sum_to (λ j. combined j program.rows mults *ℤ x j)) (sym size) ∙ combined_by_columns point program.rows mults in
      let reduced = sum_to_le
      (λ j. column_value program scale mults j *ℤ den)
      (λ j. reduced_cost program scale mults j *ℤ x j)
      n
      (λ j low high.
      let b = is_point.in_bounds.each j (record { from_one = low; at_most = high }) in
      column_bound (reduced_cost program scale mults j) (bounds_at program j).0 (bounds_at program j).1 den (x j) d b.at_least b.at_most) in
      let columns = sum_to_mul_right den (column_value program scale mults) n in
      let apart = sum_to_ext
      (λ j. reduced_cost program scale mults j *ℤ x j)
      (λ j. scale *ℤ cost_share program point j -ℤ combined j program.rows mults *ℤ x j)
      n
      (λ j low high.
      int_sub_mul (scale *ℤ cost_at program j) (combined j program.rows mults) (x j)
      ∙ ap (λ v. v -ℤ combined j program.rows mults *ℤ x j) (int_mul_assoc scale (cost_at program j) (x j))) in
      let parts = sum_to_sub (λ j. scale *ℤ cost_share program point j) (λ j. combined j program.rows mults *ℤ x j) n in
      let costs = sum_to_mul_left scale (cost_share program point) n in
      let whole = int_mul_add den (rights_value program.rows mults) (sum_to (column_value program scale mults) n) in
      let turned = int_mul_comm den (sum_to (column_value program scale mults) n) in
      omega (arith, ints);
}

-- a dead value above 0 leaves no point
pub dead_value : (program : Program) (scale value : ℤ) → BoundsCosts program scale value → scale ≡ pos 0 → pos 0 <ℤ value → HasNoPoint program
dead_value program scale value bound dead above = record {
  none = λ den point one is_point.
      let b = bound.each den point one is_point in
      let none = ap (λ s. s *ℤ cost_of_point program point) dead in
      let some = int_mul_pos den value (omega (arith, ints)) above in
      omega (arith, ints);
}
