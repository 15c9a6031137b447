-- Values and points of a program, and those of what a tableau is started with.
use Rattle.std.proofs.Common.{Bool, length-append, ◌≡◌, ℕ, zero, suc, ◌+◌, ◌-◌, ◌≤◌, ◌<◌, List, [], ◌∷◌, ◌++◌, ◌⊎◌, length, get_or, true, false, arith, ap, sym, ◌∙◌, refl, subst, ⊎_elim}
use Rattle.std.specs.Prelude.{ℤ, pos, neg_ℤ, if◌then◌else◌, ◌+ℤ◌, ◌-ℤ◌, ◌*ℤ◌, ◌≤ℤ◌}
use Rattle.std.specs.Int.{int_min}
use Rattle.std.proofs.lemmas.Int.{ints}
use Rattle.std.proofs.lemmas.List.{get_or_append_left, get_or-append_right}
use Rattle.algebra.specs.Sums.{sum_to}
use Rattle.algebra.specs.Lists.{list_to}
use Rattle.algebra.specs.Numbered.{numbered}
use Rattle.algebra.proofs.ListsLemmas.{length-list_to, list_to_entry}
use Rattle.algebra.proofs.NumberedLemmas.{all_from_numbers, same_by_number}
use Rattle.algebra.proofs.Products.{int_mul_comm}
use Rattle.algebra.proofs.SumsLemmas.{sum_to_ext}
use Rattle.term_store.specs.declared.side.Side.{Side}
use Rattle.term_store.specs.declared.side.Side.TheVariants.{Equal, AtLeast}
use Rattle.programs.specs.Programs.{Program, ProgramRow, column_count, row_count, bounds_at, cost_at, row_at, coefficient, empty_row}
use Rattle.programs.specs.Points.{numerator_at, value_at, Satisfies, MeetsRow, IsPoint, cost_share, cost_of_point}
use Rattle.programs.proofs.PointsLemmas.{value_by_columns}
use Rattle.safe_bounds.specs.Values.{rights_value, combined, reduced_cost, column_value, value_of, HasRightSigns}
use Rattle.tableau.specs.Programs.{row_value, cost_value, HasSlacks, LiesInBounds}
use Rattle.tableau.specs.Ends.{dual_value, reduced_cost as left_cost}
use Rattle.simplex.specs.inside.Slacks.{AreSlacks}
use Rattle.simplex.specs.Givens.{given_of, low_at, high_at, has_high_at, is_equation}

-- ---- lists

other_default : {A : Type 0} (xs : List A) (k : ℕ) (x y : A) → k < length xs → get_or xs k x ≡ get_or xs k y
other_default [] k x y l = absurd (omega arith)
other_default (z ∷ xs) zero x y l = refl
other_default (z ∷ xs) (suc k) x y l = other_default xs k x y (omega arith)

pub numbered_list : {A : Type 0} (other : A) (f : ℕ → A) (n i : ℕ) → 1 ≤ i → i ≤ n → numbered other (list_to f n) i ≡ f i
numbered_list other f n i first last =
    let e = list_to_entry f n i first last in
    ap (λ k. numbered other (list_to f n) k) e.number ∙ (other_default (list_to f n) e.before other (f i) e.within ∙ e.is_entry)

pub is_list : {A : Type 0} (other : A) (xs : List A) (f : ℕ → A) (n : ℕ) → length xs ≡ n → ((i : ℕ) → 1 ≤ i → i ≤ n → numbered other xs i ≡ f i) → xs ≡ list_to f n
is_list other xs f n count each =
    same_by_number other xs (list_to f n) (count ∙ sym (length-list_to f n))
    (λ i is. each i is.from_one (let l = is.at_most in omega arith) ∙ sym (numbered_list other f n i is.from_one (let l = is.at_most in omega arith)))

numbered_next : {A : Type 0} (other : A) (x : A) (xs : List A) (k : ℕ) → 1 ≤ k → numbered other (x ∷ xs) (suc k) ≡ numbered other xs k
numbered_next other x xs zero l = absurd (omega arith)
numbered_next other x xs (suc k) l = refl

-- one number more behind those of a list
pub numbered_more : (xs ys : List ℤ) (z : ℤ) (f : ℕ → ℤ) (k : ℕ) → length xs ≡ k → ys ≡ xs ++ (z ∷ []) → ((j : ℕ) → 1 ≤ j → j ≤ k → numbered (pos 0) xs j ≡ f j) → f (k + 1) ≡ z
    → (j : ℕ) → 1 ≤ j → j ≤ k + 1 → numbered (pos 0) ys j ≡ f j
numbered_more xs ys z f k count e each last zero first within = absurd (omega arith)
numbered_more xs ys z f k count e each last (suc i) first within = ⊎_elim
    (λ (l : i < k). ap (λ zs. get_or zs i (pos 0)) e ∙ (get_or_append_left xs (z ∷ []) (pos 0) i (omega arith) ∙ each (suc i) first (omega arith)))
    (λ (l : k ≤ i).
    let here : i ≡ k = omega arith in
    let same : f (suc i) ≡ z = ap f (let q : suc i ≡ k + 1 = omega arith in q) ∙ last in
    ap (λ zs. get_or zs i (pos 0)) e ∙ (get_or-append_right xs (z ∷ []) (length xs) i (pos 0) refl (omega arith) ∙ (ap (λ n. get_or (z ∷ []) n (pos 0)) (let q : i - length xs ≡ 0 = omega arith in q) ∙ sym same)))
    (lt_or_le i k)
  where
    lt_or_le : (a b : ℕ) → (a < b) ⊎ (b ≤ a)
    lt_or_le a b = grind arith

-- ---- entries at slacks

pub slacks_more : (columns k : ℕ) (turns : Bool) (entries : ℕ → ℤ) (xs ys : List ℤ) (z : ℤ) → AreSlacks columns k turns entries xs → ys ≡ xs ++ (z ∷ [])
    → z ≡ (if turns then (neg_ℤ (entries (columns + k + 1))) else (entries (columns + k + 1))) → AreSlacks columns (k + 1) turns entries ys
slacks_more columns k turns entries xs ys z h e is =
    let F : ℕ → ℤ = λ i. if turns then (neg_ℤ (entries (columns + i))) else (entries (columns + i)) in
    let place : columns + k + 1 ≡ columns + (k + 1) = omega arith in
    let last : F (k + 1) ≡ z = sym (is ∙ ap (λ j. if turns then (neg_ℤ (entries j)) else (entries j)) place) in
    record {
      count = ap length e ∙ (length-append xs (z ∷ []) ∙ ap (λ n. n + 1) h.count);
      each = numbered_more xs ys z F k h.count e h.each last;
    }

-- ---- sums over rows

sum_first : (f : ℕ → ℤ) (n : ℕ) → sum_to f (suc n) ≡ f 1 +ℤ sum_to (λ k. f (suc k)) n
sum_first f zero = omega (arith, ints)
sum_first f (suc n) = let h = sum_first f n in omega (arith, ints)

one_more : (F : ProgramRow → ℤ) (row : ProgramRow) (rows : List ProgramRow) (y : ℤ) (ys : List ℤ)
    → sum_to (λ i. numbered (pos 0) (y ∷ ys) i *ℤ F (numbered empty_row (row ∷ rows) i)) (suc (length rows))
    ≡ y *ℤ F row +ℤ sum_to (λ i. numbered (pos 0) ys i *ℤ F (numbered empty_row rows i)) (length rows)
one_more F row rows y ys =
    sum_first (λ i. numbered (pos 0) (y ∷ ys) i *ℤ F (numbered empty_row (row ∷ rows) i)) (length rows)
    ∙ ap (λ s. y *ℤ F row +ℤ s)
    (sum_to_ext (λ k. numbered (pos 0) (y ∷ ys) (suc k) *ℤ F (numbered empty_row (row ∷ rows) (suc k))) (λ k. numbered (pos 0) ys k *ℤ F (numbered empty_row rows k)) (length rows)
    (λ k first last. ap (λ z. z *ℤ F (numbered empty_row (row ∷ rows) (suc k))) (numbered_next (pos 0) y ys k first) ∙ ap (λ r. numbered (pos 0) ys k *ℤ F r) (numbered_next empty_row row rows k first)))

rights_sum : (rows : List ProgramRow) (ys : List ℤ) → length ys ≡ length rows → rights_value rows ys ≡ sum_to (λ i. numbered (pos 0) ys i *ℤ (numbered empty_row rows i).right) (length rows)
rights_sum [] ys e = refl
rights_sum (row ∷ rows) [] e = absurd (omega arith)
rights_sum (row ∷ rows) (y ∷ ys) e = ap (λ s. y *ℤ row.right +ℤ s) (rights_sum rows ys (omega arith)) ∙ sym (one_more (λ r. r.right) row rows y ys)

combined_sum : (j : ℕ) (rows : List ProgramRow) (ys : List ℤ) → length ys ≡ length rows → combined j rows ys ≡ sum_to (λ i. numbered (pos 0) ys i *ℤ coefficient j (numbered empty_row rows i).terms) (length rows)
combined_sum j [] ys e = refl
combined_sum j (row ∷ rows) [] e = absurd (omega arith)
combined_sum j (row ∷ rows) (y ∷ ys) e = ap (λ s. y *ℤ coefficient j row.terms +ℤ s) (combined_sum j rows ys (omega arith)) ∙ sym (one_more (λ r. coefficient j r.terms) row rows y ys)

-- ---- bounds

pub low_structural : (program : Program) (j : ℕ) → j ≤ column_count program → low_at program j ≡ (bounds_at program j).0
low_structural program j l = grind arith

pub high_structural : (program : Program) (j : ℕ) → j ≤ column_count program → high_at program j ≡ (bounds_at program j).1
high_structural program j l = grind arith

slack_number : (n i : ℕ) → n + i - n ≡ i
slack_number n i = omega arith

low_past : (program : Program) (j : ℕ) → column_count program < j → low_at program j ≡ (row_at program (j - column_count program)).right
low_past program j l = grind arith

high_past : (program : Program) (j : ℕ) → column_count program < j → high_at program j ≡ (row_at program (j - column_count program)).right
high_past program j l = grind arith

has_high_past : (program : Program) (j : ℕ) → column_count program < j → has_high_at program j ≡ is_equation (row_at program (j - column_count program)).side
has_high_past program j l = grind arith

low_of_slack : (program : Program) (i : ℕ) → 1 ≤ i → low_at program (column_count program + i) ≡ (row_at program i).right
low_of_slack program i l = low_past program (column_count program + i) (omega arith) ∙ ap (λ k. (row_at program k).right) (slack_number (column_count program) i)

high_of_slack : (program : Program) (i : ℕ) → 1 ≤ i → high_at program (column_count program + i) ≡ (row_at program i).right
high_of_slack program i l = high_past program (column_count program + i) (omega arith) ∙ ap (λ k. (row_at program k).right) (slack_number (column_count program) i)

has_high_of_slack : (program : Program) (i : ℕ) → 1 ≤ i → has_high_at program (column_count program + i) ≡ is_equation (row_at program i).side
has_high_of_slack program i l = has_high_past program (column_count program + i) (omega arith) ∙ ap (λ k. is_equation (row_at program k).side) (slack_number (column_count program) i)

-- ---- the value of a scale and multipliers

module _ (program : Program) (scale : ℤ) (mults : List ℤ) (f : ℕ → ℤ) (is : mults ≡ list_to f (row_count program)) where
  count : length mults ≡ row_count program
  count = ap length is ∙ length-list_to f (row_count program)

  at : (i : ℕ) → 1 ≤ i → i ≤ row_count program → numbered (pos 0) mults i ≡ f i
  at i first last = ap (λ xs. numbered (pos 0) xs i) is ∙ numbered_list (pos 0) f (row_count program) i first last

  rights_same : rights_value program.rows mults ≡ sum_to (λ i. f i *ℤ low_at program (column_count program + i)) (row_count program)
  rights_same =
      rights_sum program.rows mults count
      ∙ sum_to_ext (λ i. numbered (pos 0) mults i *ℤ (row_at program i).right) (λ i. f i *ℤ low_at program (column_count program + i)) (row_count program)
      (λ i first last. ap (λ z. z *ℤ (row_at program i).right) (at i first last) ∙ ap (λ z. f i *ℤ z) (sym (low_of_slack program i first)))

  reduced_same : (j : ℕ) → reduced_cost program scale mults j ≡ left_cost (given_of program) scale f j
  reduced_same j =
      ap (λ z. scale *ℤ cost_at program j -ℤ z)
      (combined_sum j program.rows mults count
      ∙ sum_to_ext (λ i. numbered (pos 0) mults i *ℤ coefficient j (row_at program i).terms) (λ i. f i *ℤ coefficient j (row_at program i).terms) (row_count program)
      (λ i first last. ap (λ z. z *ℤ coefficient j (row_at program i).terms) (at i first last)))

  column_same : (j : ℕ) → j ≤ column_count program
      → column_value program scale mults j ≡ int_min (left_cost (given_of program) scale f j *ℤ low_at program j) (left_cost (given_of program) scale f j *ℤ high_at program j)
  column_same j last =
      ap (λ r. int_min (r *ℤ (bounds_at program j).0) (r *ℤ (bounds_at program j).1)) (reduced_same j)
      ∙ (ap (λ z. int_min (left_cost (given_of program) scale f j *ℤ z) (left_cost (given_of program) scale f j *ℤ (bounds_at program j).1)) (sym (low_structural program j last))
      ∙ ap (λ z. int_min (left_cost (given_of program) scale f j *ℤ low_at program j) (left_cost (given_of program) scale f j *ℤ z)) (sym (high_structural program j last)))

  pub value_is_dual : value_of program scale mults ≡ dual_value (given_of program) scale f
  value_is_dual =
      ap (λ z. z +ℤ sum_to (column_value program scale mults) (column_count program)) rights_same
      ∙ ap (λ z. sum_to (λ i. f i *ℤ low_at program (column_count program + i)) (row_count program) +ℤ z)
      (sum_to_ext (column_value program scale mults) (λ j. int_min (left_cost (given_of program) scale f j *ℤ low_at program j) (left_cost (given_of program) scale f j *ℤ high_at program j)) (column_count program)
      (λ j first last. column_same j last))

  pub right_signs_of : ((i : ℕ) → 1 ≤ i → i ≤ row_count program → has_high_at program (column_count program + i) ≡ false → pos 0 ≤ℤ f i) → HasRightSigns program mults
  right_signs_of signs = record {
    each = λ i is side.
        subst (λ (z : ℤ). pos 0 ≤ℤ z) (sym (at i is.from_one is.at_most))
        (signs i is.from_one is.at_most (has_high_of_slack program i is.from_one ∙ ap is_equation side));
  }

-- ---- points

satisfied : (side : Side) (v r : ℤ) → r ≤ℤ v → (is_equation side ≡ true → v ≤ℤ r) → Satisfies side v r
satisfied Equal v r low high = let h = high refl in omega (arith, ints)
satisfied AtLeast v r low high = low

module _ (program : Program) (point : List ℤ) (x : ℕ → ℤ) (is : point ≡ list_to x (column_count program)) where
  columns : length point ≡ column_count program
  columns = ap length is ∙ length-list_to x (column_count program)

  here : (j : ℕ) → 1 ≤ j → j ≤ column_count program → numerator_at point j ≡ x j
  here j first last = ap (λ xs. numbered (pos 0) xs j) is ∙ numbered_list (pos 0) x (column_count program) j first last

  row_same : (i : ℕ) → value_at point (row_at program i).terms ≡ row_value (given_of program) i x
  row_same i =
      value_by_columns point (row_at program i).terms
      ∙ (ap (λ n. sum_to (λ j. coefficient j (row_at program i).terms *ℤ numerator_at point j) n) columns
      ∙ sum_to_ext (λ j. coefficient j (row_at program i).terms *ℤ numerator_at point j) (λ j. coefficient j (row_at program i).terms *ℤ x j) (column_count program)
      (λ j first last. ap (λ z. coefficient j (row_at program i).terms *ℤ z) (here j first last)))

  pub cost_same : cost_of_point program point ≡ cost_value (given_of program) x
  cost_same = sum_to_ext (cost_share program point) (λ j. cost_at program j *ℤ x j) (column_count program) (λ j first last. ap (λ z. cost_at program j *ℤ z) (here j first last))

  pub point_of_program : (den : ℤ) → HasSlacks (given_of program) x → LiesInBounds (given_of program) den x → IsPoint program den point
  point_of_program den slacks bounds = record {
    meets = all_from_numbers (MeetsRow den point) empty_row program.rows
        (λ i number.
        let first = number.from_one in
        let last = number.at_most in
        let value = row_same i ∙ sym (slacks i first last) in
        let low = bounds.low (column_count program + i) (omega arith) (omega arith) in
        let high = bounds.high (column_count program + i) (omega arith) (omega arith) in
        let right = low_of_slack program i first in
        let top = high_of_slack program i first in
        subst (λ (z : ℤ). Satisfies (row_at program i).side z (den *ℤ (row_at program i).right)) (sym value)
        (satisfied (row_at program i).side (x (column_count program + i)) (den *ℤ (row_at program i).right)
        (subst (λ (z : ℤ). z ≤ℤ x (column_count program + i)) (ap (λ z. z *ℤ den) right ∙ int_mul_comm (row_at program i).right den) low)
        (λ equation. subst (λ (z : ℤ). x (column_count program + i) ≤ℤ z) (ap (λ z. z *ℤ den) top ∙ int_mul_comm (row_at program i).right den) (high (has_high_of_slack program i first ∙ equation)))));
    in_bounds = record {
      columns = columns;
      each = λ j number.
          let first = number.from_one in
          let last = number.at_most in
          let low = bounds.low j first (omega arith) in
          let high = bounds.high j first (omega arith) (has_high_structural program j last) in
          record {
            at_least = subst (λ (z : ℤ). z ≤ℤ numerator_at point j) (ap (λ z. z *ℤ den) (low_structural program j last)) (subst (λ (z : ℤ). (low_at program j *ℤ den) ≤ℤ z) (sym (here j first last)) low);
            at_most = subst (λ (z : ℤ). numerator_at point j ≤ℤ z) (ap (λ z. z *ℤ den) (high_structural program j last)) (subst (λ (z : ℤ). z ≤ℤ (high_at program j *ℤ den)) (sym (here j first last)) high);
          };
    };
  }
    where
      has_high_structural : (program : Program) (j : ℕ) → j ≤ column_count program → has_high_at program j ≡ true
      has_high_structural program j l = grind arith
