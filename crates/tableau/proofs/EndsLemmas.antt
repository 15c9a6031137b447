-- An empty row's ray has right signs and a dead value above 0; the point of an optimal tableau meets rows and bounds, and its
-- cost times the scale is the value of the multipliers times the denominator.
use Rattle.std.proofs.Common.{◌≡◌, ℕ, zero, suc, ◌+◌, ◌≤◌, ◌<◌, ◌⊎◌, inl, inr, arith, ap, sym, ◌∙◌, refl, subst, ⊎_elim, true, false, Bool, cond}
use Rattle.std.specs.Prelude.{ℤ, pos, neg_ℤ, ◌+ℤ◌, ◌-ℤ◌, ◌*ℤ◌, ◌≤ℤ◌, ◌<ℤ◌, ◌≢◌, ◌==◌, if◌then◌else◌}
use Rattle.std.specs.Int.{int_min}
use Rattle.std.proofs.lemmas.Int.{ints}
use Rattle.algebra.specs.Sums.{sum_to}
use Rattle.algebra.proofs.Products.{mults, int_mul_comm, int_mul_left_comm, int_neg_mul}
use Rattle.algebra.proofs.Order.{int_lt_or_le, int_mul_le_left, int_mul_le_left_neg, int_min_of_le, int_min_of_ge, int_le_of_mul_left, int_le_antisymm}
use Rattle.algebra.proofs.SumsLemmas.{sum_to_ext, sum_to_split, sum_to_only, sum_to_add, sum_to_mul_left, sum_to_neg}
use Rattle.tableau.specs.Programs.{Given, last_column, cost_value, HasSlacks, IsOrdered, LiesInBounds}
use Rattle.tableau.specs.Signs.{turned, IsSameSign, IsOppositeSign}
use Rattle.tableau.specs.Tableaux.{Tableau, IsRow, basic_entry, standing, summand, rest, row_at}
use Rattle.tableau.specs.Exchanges.{IsOutside, IsMovable}
use Rattle.tableau.specs.Ends.{IsOptimal, IsEmptyRow, IsPointOfTableau, turned_by, turned_row, ray, multiplier, reduced_cost, dual_value}
use Rattle.tableau.specs.Laws.{IsCombination, MakesRowsZero, HasLaws}
use Rattle.tableau.specs.declared.bound.Bound.{Bound}
use Rattle.tableau.specs.declared.bound.Bound.TheVariants.{Lower, Upper}
use Rattle.tableau.proofs.Lines.{combination_at}
use Rattle.tableau.proofs.Starts.{same_or_not}
use Rattle.tableau.proofs.SignsLemmas.{turned_same, turned_opposite, turns, lowers_toward, lowers_some, Lowers, turned_self}

-- a row is among those whose basic column is j, or none is
pub basic_or_not : (f : ℕ → ℕ) (j m : ℕ) → ((k : ℕ) × (1 ≤ k) × (k ≤ m) × (f k ≡ j)) ⊎ ((k : ℕ) → 1 ≤ k → k ≤ m → f k ≢ j)
basic_or_not f j zero = inr (λ k low high e. omega arith)
basic_or_not f j (suc m) = elim (basic_or_not f j m) [
  | inl h ↦ inl (h.0, h.1, (let l = h.2 in omega arith), h.3)
  | inr none ↦ ⊎_elim
      (λ (e : f (suc m) ≡ j). inl (suc m, omega arith, omega arith, e))
      (λ (differ : f (suc m) ≢ j). inr (λ k low high. ⊎_elim
      (λ (e : k ≡ suc m). λ q. differ (ap f (sym e) ∙ q))
      (λ (other : k ≢ suc m). none k low (omega arith))
      (same_or_not k (suc m))))
      (same_or_not (f (suc m)) j)
]

-- a combination whose entries stand at bounds by their signs has as its value the sum of entries times these bounds
pub fitting_value : (g : Given) (v at : ℕ → ℤ) → IsCombination g v
    → ((j : ℕ) → 1 ≤ j → j ≤ g.columns → v j *ℤ at j ≡ int_min (v j *ℤ g.low j) (v j *ℤ g.high j))
    → ((k : ℕ) → 1 ≤ k → k ≤ g.rows → v (g.columns + k) *ℤ at (g.columns + k) ≡ v (g.columns + k) *ℤ g.low (g.columns + k))
    → sum_to (λ j. v j *ℤ at j) (last_column g) ≡ dual_value g (v 0) (λ i. v (g.columns + i))
fitting_value g v at h structural slacks =
    let all = sum_to_split (λ j. v j *ℤ at j) g.columns g.rows in
    let left : sum_to (λ j. v j *ℤ at j) g.columns ≡ sum_to (λ j. let r = reduced_cost g (v 0) (λ i. v (g.columns + i)) j in int_min (r *ℤ g.low j) (r *ℤ g.high j)) g.columns =
    sum_to_ext (λ j. v j *ℤ at j) (λ j. let r = reduced_cost g (v 0) (λ i. v (g.columns + i)) j in int_min (r *ℤ g.low j) (r *ℤ g.high j)) g.columns
    (λ j a b. structural j a b ∙ ap (λ r. int_min (r *ℤ g.low j) (r *ℤ g.high j)) (h j a b)) in
    let right = sum_to_ext (λ k. v (g.columns + k) *ℤ at (g.columns + k)) (λ k. v (g.columns + k) *ℤ g.low (g.columns + k)) g.rows slacks in
    omega (arith, ints)

-- the lesser of two products with a factor, by its sign
min_above : (v low high : ℤ) → pos 0 ≤ℤ v → low ≤ℤ high → int_min (v *ℤ low) (v *ℤ high) ≡ v *ℤ low
min_above v low high p q = int_min_of_le (v *ℤ low) (v *ℤ high) (int_mul_le_left low high v p q)

min_below : (v low high : ℤ) → v ≤ℤ pos 0 → low ≤ℤ high → int_min (v *ℤ low) (v *ℤ high) ≡ v *ℤ high
min_below v low high p q = int_min_of_ge (v *ℤ low) (v *ℤ high) (int_mul_le_left_neg low high v p q)

-- a number at the bound that its sign asks for
pub stands_by_sign : (v low high : ℤ) (b : Bool) → low ≤ℤ high → (pos 0 <ℤ v → b ≡ false) → (v <ℤ pos 0 → b ≡ true)
    → v *ℤ cond b high low ≡ int_min (v *ℤ low) (v *ℤ high)
stands_by_sign v low high true q above below = sym (min_below v low high (⊎_elim (λ (l : pos 0 <ℤ v). absurd (true_false (above l))) (λ (l : v ≤ℤ pos 0). l) (int_lt_or_le (pos 0) v)) q)
  where
    true_false : true ≡ false → ⊥
    true_false e = cc
stands_by_sign v low high false q above below = sym (min_above v low high (⊎_elim (λ (l : v <ℤ pos 0). absurd (false_true (below l))) (λ (l : pos 0 ≤ℤ v). l) (int_lt_or_le v (pos 0))) q)
  where
    false_true : false ≡ true → ⊥
    false_true e = cc

bool_cases : (x : Bool) → (x ≡ true) ⊎ (x ≡ false)
bool_cases true = inl refl
bool_cases false = inr refl

-- the summands of a row at other columns than its basic one
pub summand_basic : (t : Tableau) (i j : ℕ) → t.basis i ≡ j → summand t i j ≡ pos 0
summand_basic t i j e = grind arith

pub summand_other : (t : Tableau) (i j : ℕ) → t.basis i ≢ j → summand t i j ≡ t.entry i j *ℤ standing t j
summand_other t i j differ = grind arith

module _ (t : Tableau) (laws : HasLaws t) (ordered : IsOrdered t.given) where
  abbrev g : Given
  g = t.given

  -- where a basic column stands, z, and the others at their bounds
  abbrev pub placed : ℕ → ℤ → ℕ → ℤ
  placed i z j = if t.basis i == j then z else standing t j

  placed_basic : (i : ℕ) (z : ℤ) (j : ℕ) → t.basis i ≡ j → placed i z j ≡ z
  placed_basic i z j e = grind arith

  placed_other : (i : ℕ) (z : ℤ) (j : ℕ) → t.basis i ≢ j → placed i z j ≡ standing t j
  placed_other i z j differ = grind arith

  -- a row's sum with its basic column at z
  pub sum_placed : (i : ℕ) (z : ℤ) → IsRow t i → sum_to (λ j. t.entry i j *ℤ placed i z j) (last_column g) ≡ row_at t i z
  sum_placed i z row =
      let column = laws.basis.column i row in
      let split : sum_to (λ j. t.entry i j *ℤ placed i z j) (last_column g) ≡ sum_to (λ j. summand t i j +ℤ (t.entry i j *ℤ placed i z j -ℤ summand t i j)) (last_column g) =
      sum_to_ext (λ j. t.entry i j *ℤ placed i z j) (λ j. summand t i j +ℤ (t.entry i j *ℤ placed i z j -ℤ summand t i j)) (last_column g) (λ j a b. omega (arith, ints)) in
      let only : sum_to (λ j. t.entry i j *ℤ placed i z j -ℤ summand t i j) (last_column g) ≡ t.entry i (t.basis i) *ℤ placed i z (t.basis i) -ℤ summand t i (t.basis i) =
      sum_to_only (λ j. t.entry i j *ℤ placed i z j -ℤ summand t i j) (t.basis i) (last_column g) column.0 column.1
      (λ j a b differ.
      let e = ap (λ y. t.entry i j *ℤ y) (placed_other i z j (λ f. differ (sym f))) in
      let f = summand_other t i j (λ f. differ (sym f)) in
      omega (arith, ints)) in
      let e = ap (λ y. t.entry i (t.basis i) *ℤ y) (placed_basic i z (t.basis i) refl) in
      let f = summand_basic t i (t.basis i) refl in
      let both = sum_to_add (summand t i) (λ j. t.entry i j *ℤ placed i z j -ℤ summand t i j) (last_column g) in
      omega (arith, ints)

  -- ---- an empty row

  module _ (i : ℕ) (b : Bound) (h : IsEmptyRow t i b) where
    abbrev v : ℕ → ℤ
    v = turned_row t i b

    -- the bound that is broken
    abbrev pub broken_bound : Bound → ℤ
    broken_bound Lower = g.low (t.basis i)
    broken_bound Upper = g.high (t.basis i)

    abbrev at : ℕ → ℤ
    at = placed i (broken_bound b)

    line : IsCombination g (turned_row t i b)
    line j low high = elim (turns b (basic_entry t i)) [
      | inl f ↦ f (t.entry i j) ∙ (laws.rows.combinations i h.row.1 j low high
          ∙ (ap (λ x. x *ℤ g.cost j -ℤ sum_to (λ k. t.entry i (g.columns + k) *ℤ g.coefficient k j) g.rows) (sym (f (t.entry i 0)))
          ∙ ap (λ x. v 0 *ℤ g.cost j -ℤ x) (sum_to_ext (λ k. t.entry i (g.columns + k) *ℤ g.coefficient k j) (λ k. v (g.columns + k) *ℤ g.coefficient k j) g.rows
          (λ k a c. ap (λ x. x *ℤ g.coefficient k j) (sym (f (t.entry i (g.columns + k))))))))
      | inr f ↦ f (t.entry i j) ∙ (ap neg_ℤ (laws.rows.combinations i h.row.1 j low high)
          ∙ (negated (t.entry i 0) (g.cost j) (sum_to (λ k. t.entry i (g.columns + k) *ℤ g.coefficient k j) g.rows)
          ∙ (ap (λ x. x *ℤ g.cost j -ℤ neg_ℤ (sum_to (λ k. t.entry i (g.columns + k) *ℤ g.coefficient k j) g.rows)) (sym (f (t.entry i 0)))
          ∙ ap (λ x. v 0 *ℤ g.cost j -ℤ x) (sym (sum_to_neg (λ k. t.entry i (g.columns + k) *ℤ g.coefficient k j) g.rows)
          ∙ sum_to_ext (λ k. neg_ℤ (t.entry i (g.columns + k) *ℤ g.coefficient k j)) (λ k. v (g.columns + k) *ℤ g.coefficient k j) g.rows
          (λ k a c. sym (int_neg_mul (t.entry i (g.columns + k)) (g.coefficient k j)) ∙ ap (λ x. x *ℤ g.coefficient k j) (sym (f (t.entry i (g.columns + k)))))))))
    ]
      where
        negated : (a c s : ℤ) → neg_ℤ (a *ℤ c -ℤ s) ≡ neg_ℤ a *ℤ c -ℤ neg_ℤ s
        negated a c s = simp mults (omega (arith, ints))

    no_scale : v 0 ≡ pos 0
    no_scale = let e = laws.rows.no_scale i h.row in elim (turns b (basic_entry t i)) [ inl f ↦ f (t.entry i 0) ∙ e | inr f ↦ f (t.entry i 0) ∙ ap neg_ℤ e ]

    -- a column that isn't the row's basic one has no entry that lowers, or it can't move
    stuck : (j : ℕ) → 1 ≤ j → j ≤ last_column g → t.basis i ≢ j → IsMovable g j → Lowers (t.at_high j) (v j) → ⊥
    stuck j low high differ movable lowers =
        let some = lowers_some b (t.at_high j) (t.entry i j) (basic_entry t i) lowers in
        h.none j (record {
          column = (low, high);
          nonbasic = λ k row e. ⊎_elim
              (λ (f : i ≡ k). differ (ap t.basis f ∙ e))
              (λ (f : i ≢ k). some (ap (t.entry i) (sym e) ∙ laws.basis.alone i k h.row.1 row f))
              (same_or_not i k);
          movable = movable;
          toward = lowers_toward b (t.at_high j) (t.entry i j) (basic_entry t i) (laws.basis.entry i h.row) lowers;
        })

    -- the turned entry of the basic column has the sign of the bound that is broken
    own_sign : (x : Bound) → IsOutside t i x → (x ≡ Lower → pos 0 <ℤ turned_by x (basic_entry t i) (basic_entry t i)) × (x ≡ Upper → turned_by x (basic_entry t i) (basic_entry t i) <ℤ pos 0)
    own_sign Lower out = (λ e. let s = turned_self (basic_entry t i) in let n = laws.basis.entry i h.row in omega (arith, ints), λ e. absurd (cc))
    own_sign Upper out = (λ e. absurd (cc), λ e. let s = turned_self (basic_entry t i) in let n = laws.basis.entry i h.row in omega (arith, ints))

    structural_low_high : (j : ℕ) → 1 ≤ j → j ≤ g.columns → g.low j ≤ℤ g.high j
    structural_low_high = ordered.ordered

    -- of the basic column
    basic_fits : (x : Bound) → IsOutside t i x → (j : ℕ) → 1 ≤ j → j ≤ g.columns → t.basis i ≡ j → turned_by x (basic_entry t i) (t.entry i j) *ℤ broken_bound x ≡ int_min (turned_by x (basic_entry t i) (t.entry i j) *ℤ g.low j) (turned_by x (basic_entry t i) (t.entry i j) *ℤ g.high j)
    basic_fits Lower out j low high e =
        let P : ℕ → Type 0 = λ y. turned (basic_entry t i) (t.entry i y) *ℤ g.low (t.basis i) ≡ int_min (turned (basic_entry t i) (t.entry i y) *ℤ g.low y) (turned (basic_entry t i) (t.entry i y) *ℤ g.high y) in
        let s = (own_sign Lower out).0 refl in
        subst P e (sym (min_above (turned (basic_entry t i) (basic_entry t i)) (g.low (t.basis i)) (g.high (t.basis i)) (omega (arith, ints)) (subst (λ (y : ℕ). g.low y ≤ℤ g.high y) (sym e) (ordered.ordered j low high))))
    basic_fits Upper out j low high e =
        let P : ℕ → Type 0 = λ y. neg_ℤ (turned (basic_entry t i) (t.entry i y)) *ℤ g.high (t.basis i) ≡ int_min (neg_ℤ (turned (basic_entry t i) (t.entry i y)) *ℤ g.low y) (neg_ℤ (turned (basic_entry t i) (t.entry i y)) *ℤ g.high y) in
        let s = (own_sign Upper out).1 refl in
        subst P e (sym (min_below (neg_ℤ (turned (basic_entry t i) (basic_entry t i))) (g.low (t.basis i)) (g.high (t.basis i)) (omega (arith, ints)) (subst (λ (y : ℕ). g.low y ≤ℤ g.high y) (sym e) (ordered.ordered j low high))))

    -- of another structural column
    other_fits : (j : ℕ) → 1 ≤ j → j ≤ g.columns → t.basis i ≢ j → v j *ℤ standing t j ≡ int_min (v j *ℤ g.low j) (v j *ℤ g.high j)
    other_fits j low high differ = ⊎_elim
        (λ (l : g.low j <ℤ g.high j).
        let movable : IsMovable g j = λ e f. omega (arith, ints) in
        let last : j ≤ last_column g = omega arith in
        stands_by_sign (v j) (g.low j) (g.high j) (t.at_high j) (ordered.ordered j low high)
        (λ above. ⊎_elim
        (λ (e : t.at_high j ≡ true). absurd (stuck j low last differ movable (let L : Bool → Type 0 = λ x. Lowers x (v j) in subst L (sym e) above)))
        (λ (e : t.at_high j ≡ false). e)
        (bool_cases (t.at_high j)))
        (λ below. ⊎_elim
        (λ (e : t.at_high j ≡ true). e)
        (λ (e : t.at_high j ≡ false). absurd (stuck j low last differ movable (let L : Bool → Type 0 = λ x. Lowers x (v j) in subst L (sym e) below)))
        (bool_cases (t.at_high j))))
        (λ (l : g.high j ≤ℤ g.low j).
        let one : g.high j ≡ g.low j = int_le_antisymm (g.high j) (g.low j) l (ordered.ordered j low high) in
        ap (λ x. v j *ℤ x) (either (t.at_high j) (g.high j) (g.low j) one) ∙ (sym (int_min_of_le (v j *ℤ g.low j) (v j *ℤ g.low j) (omega (arith, ints))) ∙ ap (λ x. int_min (v j *ℤ g.low j) (v j *ℤ x)) (sym one)))
        (int_lt_or_le (g.low j) (g.high j))
      where
        either : (x : Bool) (a c : ℤ) → a ≡ c → cond x a c ≡ c
        either true a c e = e
        either false a c e = refl

    fits : (j : ℕ) → 1 ≤ j → j ≤ g.columns → v j *ℤ at j ≡ int_min (v j *ℤ g.low j) (v j *ℤ g.high j)
    fits j low high = ⊎_elim
        (λ (e : t.basis i ≡ j). ap (λ x. v j *ℤ x) (placed_basic i (broken_bound b) j e) ∙ basic_fits b h.outside j low high e)
        (λ (differ : t.basis i ≢ j). ap (λ x. v j *ℤ x) (placed_other i (broken_bound b) j differ) ∙ other_fits j low high differ)
        (same_or_not (t.basis i) j)

    -- a basic slack that breaks its upper bound is fixed
    slack_bound : (x : Bound) → IsOutside t i x → (j : ℕ) → g.columns < j → j ≤ last_column g → t.basis i ≡ j → broken_bound x ≡ g.low j
    slack_bound Lower out j low high e = ap g.low e
    slack_bound Upper out j low high e = ap g.high e ∙ sym (ordered.fixed j low high (ap g.has_high (sym e) ∙ out.0))

    slack_fits : (k : ℕ) → 1 ≤ k → k ≤ g.rows → v (g.columns + k) *ℤ at (g.columns + k) ≡ v (g.columns + k) *ℤ g.low (g.columns + k)
    slack_fits k low high = let j = g.columns + k in ⊎_elim
        (λ (e : t.basis i ≡ g.columns + k). ap (λ x. v (g.columns + k) *ℤ x) (placed_basic i (broken_bound b) (g.columns + k) e ∙ slack_bound b h.outside (g.columns + k) (omega arith) (omega arith) e))
        (λ (differ : t.basis i ≢ g.columns + k). ap (λ x. v (g.columns + k) *ℤ x) (placed_other i (broken_bound b) (g.columns + k) differ
        ∙ ap (λ x. cond x (g.high (g.columns + k)) (g.low (g.columns + k))) (laws.signs.slacks_low (g.columns + k) (omega arith) (omega arith))))
        (same_or_not (t.basis i) (g.columns + k))

    -- the turned row is above 0 with its basic column at the broken bound
    above : (x : Bound) → IsOutside t i x → pos 0 <ℤ turned_by x (basic_entry t i) (row_at t i (broken_bound x))
    above Lower out = turned_same (basic_entry t i) (row_at t i (g.low (t.basis i))) out
    above Upper out = let l = turned_opposite (basic_entry t i) (row_at t i (g.high (t.basis i))) out.1 in omega (arith, ints)

    turned_sum : sum_to (λ j. v j *ℤ at j) (last_column g) ≡ turned_by b (basic_entry t i) (row_at t i (broken_bound b))
    turned_sum = elim (turns b (basic_entry t i)) [
      | inl f ↦ sum_to_ext (λ j. v j *ℤ at j) (λ j. t.entry i j *ℤ at j) (last_column g) (λ j a c. ap (λ x. x *ℤ at j) (f (t.entry i j)))
          ∙ (sum_placed i (broken_bound b) h.row ∙ sym (f (row_at t i (broken_bound b))))
      | inr f ↦ sum_to_ext (λ j. v j *ℤ at j) (λ j. neg_ℤ (t.entry i j *ℤ at j)) (last_column g) (λ j a c. ap (λ x. x *ℤ at j) (f (t.entry i j)) ∙ int_neg_mul (t.entry i j) (at j))
          ∙ (sum_to_neg (λ j. t.entry i j *ℤ at j) (last_column g) ∙ (ap neg_ℤ (sum_placed i (broken_bound b) h.row) ∙ sym (f (row_at t i (broken_bound b)))))
    ]

    -- the dead value of an empty row's ray is above 0
    pub ray_dead : pos 0 <ℤ dual_value g (pos 0) (ray t i b)
    ray_dead =
        let value = fitting_value g v at line fits slack_fits in
        let P : ℤ → Type 0 = λ x. pos 0 <ℤ dual_value g x (ray t i b) in
        subst P no_scale (let Q : ℤ → Type 0 = λ x. pos 0 <ℤ x in subst Q (sym turned_sum ∙ value) (above b h.outside))

    -- and it has right signs
    breaks : (x : Bound) → IsOutside t i x → (j : ℕ) → t.basis i ≡ j → g.has_high j ≡ false → pos 0 ≤ℤ turned_by x (basic_entry t i) (t.entry i j)
    breaks Lower out j e no_high = let P : ℕ → Type 0 = λ y. pos 0 ≤ℤ turned (basic_entry t i) (t.entry i y) in subst P e (let s = turned_self (basic_entry t i) in omega (arith, ints))
    breaks Upper out j e no_high = let f = ap g.has_high e in let q = out.0 in absurd (cc)

    pub ray_signs : (k : ℕ) → 1 ≤ k → k ≤ g.rows → g.has_high (g.columns + k) ≡ false → pos 0 ≤ℤ ray t i b k
    ray_signs k low high no_high = ⊎_elim
        (λ (e : t.basis i ≡ g.columns + k). breaks b h.outside (g.columns + k) e no_high)
        (λ (differ : t.basis i ≢ g.columns + k). ⊎_elim
        (λ (l : v (g.columns + k) <ℤ pos 0).
        let last : g.columns + k ≤ last_column g = omega arith in
        let first : 1 ≤ g.columns + k = omega arith in
        absurd (stuck (g.columns + k) first last differ (λ e. absurd (cc))
        (let L : Bool → Type 0 = λ x. Lowers x (v (g.columns + k)) in subst L (sym (laws.signs.slacks_low (g.columns + k) (omega arith) last)) l)))
        (λ (l : pos 0 ≤ℤ v (g.columns + k)). l)
        (int_lt_or_le (v (g.columns + k)) (pos 0)))
        (same_or_not (t.basis i) (g.columns + k))

  -- ---- the point

  module _ (den : ℤ) (x : ℕ → ℤ) (positive : pos 0 <ℤ den) (point : IsPointOfTableau t den x) where
    point_terms : (i j : ℕ) → IsRow t i → 1 ≤ j → j ≤ last_column g → t.basis i ≢ j → t.entry i j *ℤ x j ≡ den *ℤ summand t i j
    point_terms i j row low high differ = elim (basic_or_not t.basis j g.rows) [
      | inl k ↦
          let zero_entry : t.entry i j ≡ pos 0 = ap (t.entry i) (sym k.3) ∙ laws.basis.alone i k.0 row.1 (k.1, k.2) (λ e. differ (ap t.basis e ∙ k.3)) in
          ap (λ y. y *ℤ x j) zero_entry ∙ (none (x j) den (standing t j) ∙ (ap (λ y. den *ℤ (y *ℤ standing t j)) (sym zero_entry) ∙ ap (λ y. den *ℤ y) (sym (summand_other t i j differ))))
      | inr free ↦
          ap (λ y. t.entry i j *ℤ y) (point.nonbasic j (low, high) (λ k r. free k r.0 r.1))
          ∙ (int_mul_left_comm (t.entry i j) den (standing t j) ∙ ap (λ y. den *ℤ y) (sym (summand_other t i j differ)))
    ]
      where
        none : (a c d : ℤ) → pos 0 *ℤ a ≡ c *ℤ (pos 0 *ℤ d)
        none a c d = let e : pos 0 *ℤ d ≡ pos 0 = omega (arith, ints) in let f = ap (λ y. c *ℤ y) e in omega (arith, ints)

    -- the tableau's point makes its rows 0
    pub point_zeros : MakesRowsZero t x
    point_zeros i row =
        let column = laws.basis.column i row in
        let split : sum_to (λ j. t.entry i j *ℤ x j) (last_column g) ≡ sum_to (λ j. den *ℤ summand t i j +ℤ (t.entry i j *ℤ x j -ℤ den *ℤ summand t i j)) (last_column g) =
        sum_to_ext (λ j. t.entry i j *ℤ x j) (λ j. den *ℤ summand t i j +ℤ (t.entry i j *ℤ x j -ℤ den *ℤ summand t i j)) (last_column g) (λ j a b. omega (arith, ints)) in
        let only : sum_to (λ j. t.entry i j *ℤ x j -ℤ den *ℤ summand t i j) (last_column g) ≡ t.entry i (t.basis i) *ℤ x (t.basis i) -ℤ den *ℤ summand t i (t.basis i) =
        sum_to_only (λ j. t.entry i j *ℤ x j -ℤ den *ℤ summand t i j) (t.basis i) (last_column g) column.0 column.1
        (λ j a b differ. let e = point_terms i j row a b (λ f. differ (sym f)) in omega (arith, ints)) in
        let f = ap (λ y. den *ℤ y) (summand_basic t i (t.basis i) refl) in
        let both = sum_to_add (λ j. den *ℤ summand t i j) (λ j. t.entry i j *ℤ x j -ℤ den *ℤ summand t i j) (last_column g) in
        let scaled = sum_to_mul_left den (summand t i) (last_column g) in
        let own = point.basic i row in
        omega (arith, ints)

    -- a column's cost entry times its coordinate
    cost_terms : (j : ℕ) → 1 ≤ j → j ≤ last_column g → t.entry 0 j *ℤ x j ≡ den *ℤ (t.entry 0 j *ℤ standing t j)
    cost_terms j low high = elim (basic_or_not t.basis j g.rows) [
      | inl k ↦
          let first = k.1 in
          let zero_entry : t.entry 0 j ≡ pos 0 = ap (t.entry 0) (sym k.3) ∙ laws.basis.alone 0 k.0 (omega arith) (k.1, k.2) (λ e. omega arith) in
          ap (λ y. y *ℤ x j) zero_entry ∙ (none (x j) den (standing t j) ∙ ap (λ y. den *ℤ (y *ℤ standing t j)) (sym zero_entry))
      | inr free ↦
          ap (λ y. t.entry 0 j *ℤ y) (point.nonbasic j (low, high) (λ k r. free k r.0 r.1)) ∙ int_mul_left_comm (t.entry 0 j) den (standing t j)
    ]
      where
        none : (a c d : ℤ) → pos 0 *ℤ a ≡ c *ℤ (pos 0 *ℤ d)
        none a c d = let e : pos 0 *ℤ d ≡ pos 0 = omega (arith, ints) in let f = ap (λ y. c *ℤ y) e in omega (arith, ints)

    -- the value of the multipliers is the sum of the cost row's entries times the bounds at which columns stand
    pub standing_value : sum_to (λ j. t.entry 0 j *ℤ standing t j) (last_column g) ≡ dual_value g (t.entry 0 0) (multiplier t)
    standing_value = fitting_value g (t.entry 0) (standing t) (laws.rows.combinations 0 (omega arith))
        (λ j a b. stands_by_sign (t.entry 0 j) (g.low j) (g.high j) (t.at_high j) (ordered.ordered j a b) (laws.signs.above j a b) (laws.signs.below j a b))
        (λ k a b. ap (λ y. t.entry 0 (g.columns + k) *ℤ cond y (g.high (g.columns + k)) (g.low (g.columns + k))) (laws.signs.slacks_low (g.columns + k) (omega arith) (omega arith)))

    -- cost times scale is value times denominator
    pub point_cost : HasSlacks g x → t.entry 0 0 *ℤ cost_value g x ≡ dual_value g (t.entry 0 0) (multiplier t) *ℤ den
    point_cost slacks =
        sym (combination_at g (t.entry 0) x (laws.rows.combinations 0 (omega arith)) slacks)
        ∙ (sum_to_ext (λ j. t.entry 0 j *ℤ x j) (λ j. den *ℤ (t.entry 0 j *ℤ standing t j)) (last_column g) cost_terms
        ∙ (sum_to_mul_left den (λ j. t.entry 0 j *ℤ standing t j) (last_column g)
        ∙ (ap (λ y. den *ℤ y) standing_value ∙ int_mul_comm den (dual_value g (t.entry 0 0) (multiplier t)))))

    -- a basic coordinate is within bounds where its row isn't outside
    basic_low : (i : ℕ) → IsRow t i → (IsOutside t i Lower → ⊥) → (g.low (t.basis i) *ℤ den) ≤ℤ x (t.basis i)
    basic_low i row inside = at_least (basic_entry t i) (rest t i) (g.low (t.basis i)) den (x (t.basis i)) positive (laws.basis.entry i row) (point.basic i row) inside
      where
        at_least : (e r l d y : ℤ) → pos 0 <ℤ d → e ≢ pos 0 → e *ℤ y +ℤ d *ℤ r ≡ pos 0 → (IsSameSign e (r +ℤ e *ℤ l) → ⊥) → (l *ℤ d) ≤ℤ y
        at_least e r l d y pd some eq inside = ⊎_elim
            (λ (above : pos 0 <ℤ e).
            ⊎_elim
            (λ (p : pos 0 <ℤ (r +ℤ e *ℤ l)). absurd (inside (inl (above, p))))
            (λ (p : (r +ℤ e *ℤ l) ≤ℤ pos 0).
            let m = int_mul_le_left (r +ℤ e *ℤ l) (pos 0) d (omega (arith, ints)) p in
            int_le_of_mul_left (l *ℤ d) y e above (let s = shape d r e l in omega (arith, ints)))
            (int_lt_or_le (pos 0) (r +ℤ e *ℤ l)))
            (λ (below : e ≤ℤ pos 0).
            ⊎_elim
            (λ (p : (r +ℤ e *ℤ l) <ℤ pos 0). absurd (inside (inr (omega (arith, ints), p))))
            (λ (p : pos 0 ≤ℤ (r +ℤ e *ℤ l)).
            let m = int_mul_le_left (pos 0) (r +ℤ e *ℤ l) d (omega (arith, ints)) p in
            int_le_of_mul_left (l *ℤ d) y (neg_ℤ e) (omega (arith, ints)) (let s = shape d r e l in let u = int_neg_mul e (l *ℤ d) in let w = int_neg_mul e y in omega (arith, ints)))
            (int_lt_or_le (r +ℤ e *ℤ l) (pos 0)))
            (int_lt_or_le (pos 0) e)
          where
            shape : (d r e l : ℤ) → d *ℤ (r +ℤ e *ℤ l) ≡ d *ℤ r +ℤ e *ℤ (l *ℤ d)
            shape d r e l = simp mults (omega (arith, ints))

    basic_high : (i : ℕ) → IsRow t i → (IsOppositeSign (basic_entry t i) (row_at t i (g.high (t.basis i))) → ⊥) → x (t.basis i) ≤ℤ (g.high (t.basis i) *ℤ den)
    basic_high i row inside = at_most (basic_entry t i) (rest t i) (g.high (t.basis i)) den (x (t.basis i)) positive (laws.basis.entry i row) (point.basic i row) inside
      where
        at_most : (e r l d y : ℤ) → pos 0 <ℤ d → e ≢ pos 0 → e *ℤ y +ℤ d *ℤ r ≡ pos 0 → (IsOppositeSign e (r +ℤ e *ℤ l) → ⊥) → y ≤ℤ (l *ℤ d)
        at_most e r l d y pd some eq inside = ⊎_elim
            (λ (above : pos 0 <ℤ e).
            ⊎_elim
            (λ (p : (r +ℤ e *ℤ l) <ℤ pos 0). absurd (inside (inl (above, p))))
            (λ (p : pos 0 ≤ℤ (r +ℤ e *ℤ l)).
            let m = int_mul_le_left (pos 0) (r +ℤ e *ℤ l) d (omega (arith, ints)) p in
            int_le_of_mul_left y (l *ℤ d) e above (let s = shape d r e l in omega (arith, ints)))
            (int_lt_or_le (r +ℤ e *ℤ l) (pos 0)))
            (λ (below : e ≤ℤ pos 0).
            ⊎_elim
            (λ (p : pos 0 <ℤ (r +ℤ e *ℤ l)). absurd (inside (inr (omega (arith, ints), p))))
            (λ (p : (r +ℤ e *ℤ l) ≤ℤ pos 0).
            let m = int_mul_le_left (r +ℤ e *ℤ l) (pos 0) d (omega (arith, ints)) p in
            int_le_of_mul_left y (l *ℤ d) (neg_ℤ e) (omega (arith, ints)) (let s = shape d r e l in let u = int_neg_mul e (l *ℤ d) in let w = int_neg_mul e y in omega (arith, ints)))
            (int_lt_or_le (pos 0) (r +ℤ e *ℤ l)))
            (int_lt_or_le (pos 0) e)
          where
            shape : (d r e l : ℤ) → d *ℤ (r +ℤ e *ℤ l) ≡ d *ℤ r +ℤ e *ℤ (l *ℤ d)
            shape d r e l = simp mults (omega (arith, ints))

    low_high : (j : ℕ) → 1 ≤ j → j ≤ last_column g → g.has_high j ≡ true → g.low j ≤ℤ g.high j
    low_high j first last has = ⊎_elim
        (λ (l : j ≤ g.columns). ordered.ordered j first l)
        (λ (l : g.columns < j). let e = ordered.fixed j l last has in omega (arith, ints))
        (cases_le j g.columns)
      where
        cases_le : (a c : ℕ) → (a ≤ c) ⊎ (c < a)
        cases_le a c = grind arith

    -- a nonbasic column stands at a bound
    stands_high : (j : ℕ) → 1 ≤ j → j ≤ last_column g → t.at_high j ≡ true → g.has_high j ≡ true
    stands_high j first last high = ⊎_elim
        (λ (l : j ≤ g.columns). ordered.bounded j first l)
        (λ (l : g.columns < j). let e = laws.signs.slacks_low j l last in absurd (cc))
        (cases_le j g.columns)
      where
        cases_le : (a c : ℕ) → (a ≤ c) ⊎ (c < a)
        cases_le a c = grind arith

    standing_low : (j : ℕ) → 1 ≤ j → j ≤ last_column g → g.low j ≤ℤ standing t j
    standing_low j first last = ⊎_elim
        (λ (e : t.at_high j ≡ true). let s = ap (λ y. cond y (g.high j) (g.low j)) e in let l = low_high j first last (stands_high j first last e) in omega (arith, ints))
        (λ (e : t.at_high j ≡ false). let s = ap (λ y. cond y (g.high j) (g.low j)) e in omega (arith, ints))
        (bool_cases (t.at_high j))

    standing_high : (j : ℕ) → 1 ≤ j → j ≤ last_column g → g.has_high j ≡ true → standing t j ≤ℤ g.high j
    standing_high j first last has = ⊎_elim
        (λ (e : t.at_high j ≡ true). let s = ap (λ y. cond y (g.high j) (g.low j)) e in omega (arith, ints))
        (λ (e : t.at_high j ≡ false). let s = ap (λ y. cond y (g.high j) (g.low j)) e in let l = low_high j first last has in omega (arith, ints))
        (bool_cases (t.at_high j))

    -- the point of an optimal tableau is in the bounds
    pub point_in_bounds : IsOptimal t → LiesInBounds g den x
    point_in_bounds optimal = record {
      low = λ j first last. elim (basic_or_not t.basis j g.rows) [
        | inl k ↦ let P : ℕ → Type 0 = λ y. (g.low y *ℤ den) ≤ℤ x y in subst P k.3 (basic_low k.0 (k.1, k.2) (optimal k.0 Lower (k.1, k.2)))
        | inr free ↦
            let e = point.nonbasic j (first, last) (λ k r. free k r.0 r.1) in
            let l = int_mul_le_left (g.low j) (standing t j) den (omega (arith, ints)) (standing_low j first last) in
            let c = int_mul_comm (g.low j) den in
            omega (arith, ints)
      ];
      high = λ j first last has. elim (basic_or_not t.basis j g.rows) [
        | inl k ↦ let P : ℕ → Type 0 = λ y. x y ≤ℤ (g.high y *ℤ den) in
            subst P k.3 (basic_high k.0 (k.1, k.2) (λ out. optimal k.0 Upper (k.1, k.2) (ap g.has_high k.3 ∙ has, out)))
        | inr free ↦
            let e = point.nonbasic j (first, last) (λ k r. free k r.0 r.1) in
            let l = int_mul_le_left (standing t j) (g.high j) den (omega (arith, ints)) (standing_high j first last has) in
            let c = int_mul_comm (g.high j) den in
            omega (arith, ints)
      ];
    }
