-- A good exchange keeps the laws of a tableau.
use Rattle.std.proofs.Common.{◌≡◌, ℕ, ◌*◌, ◌≤◌, ◌<◌, ◌⊎◌, inl, inr, arith, ap, sym, ◌∙◌, refl, subst, ⊎_elim, true, false, Bool}
use Rattle.std.specs.Prelude.{ℤ, pos, negsuc, neg_ℤ, ◌-ℤ◌, ◌*ℤ◌, ◌≤ℤ◌, ◌<ℤ◌, ◌≢◌, unsigned_abs}
use Rattle.std.proofs.lemmas.Int.{ints}
use Rattle.algebra.proofs.Products.{mults, int_neg_mul}
use Rattle.algebra.proofs.Order.{int_lt_or_le, int_mul_nonneg, int_mul_pos, int_lt_of_mul_left, int_le_of_mul_left, int_eq_of_mul_left}
use Rattle.tableau.specs.Programs.{Given, last_column, IsOrdered}
use Rattle.tableau.specs.Signs.{turned}
use Rattle.tableau.specs.Tableaux.{Tableau, IsRow, IsColumn, IsNonbasic, basic_entry}
use Rattle.tableau.specs.Exchanges.{IsOutside, IsEligible, IsGoodAt, IsResultAt, IsDivided, IsMovable, reduced}
use Rattle.tableau.specs.Ends.{turned_by}
use Rattle.tableau.specs.Laws.{IsCombination, HasRows, HasBasis, HasSigns, HasLaws}
use Rattle.tableau.specs.declared.bound.Bound.{Bound}
use Rattle.tableau.specs.declared.bound.Bound.TheVariants.{Lower, Upper}
use Rattle.tableau.proofs.Lines.{combination_reduced, combination_divided, combination_same}
use Rattle.tableau.proofs.Starts.{same_or_not}
use Rattle.tableau.proofs.SignsLemmas.{zero_or_not, turned_times, turned_same, turns, toward_lowers, lowers_toward, lowers_some, Lowers, turned_magnitude, turned_above, turned_below, size_above, size_below, neg_size_above, neg_size_below}

-- a product with a positive factor: its sign and whether it is 0
quotient_zero : (d x y : ℤ) → pos 0 <ℤ d → y ≡ d *ℤ x → y ≡ pos 0 → x ≡ pos 0
quotient_zero d x y h e z = int_eq_of_mul_left x (pos 0) d (λ n. omega (arith, ints)) (sym e ∙ (z ∙ omega (arith, ints)))

quotient_some : (d x y : ℤ) → y ≡ d *ℤ x → y ≢ pos 0 → x ≢ pos 0
quotient_some d x y e some none = some (e ∙ (ap (λ n. d *ℤ n) none ∙ omega (arith, ints)))

quotient_positive : (d x y : ℤ) → pos 0 <ℤ d → y ≡ d *ℤ x → pos 0 <ℤ y → pos 0 <ℤ x
quotient_positive d x y h e l = int_lt_of_mul_left (pos 0) x d (omega (arith, ints)) (omega (arith, ints))

pub quotient_nonneg : (d x y : ℤ) → pos 0 <ℤ d → y ≡ d *ℤ x → pos 0 ≤ℤ y → pos 0 ≤ℤ x
quotient_nonneg d x y h e l = int_le_of_mul_left (pos 0) x d h (omega (arith, ints))

product_zero : (p q a b : ℤ) → a ≡ pos 0 → b ≡ pos 0 → p *ℤ a -ℤ q *ℤ b ≡ pos 0
product_zero p q a b e f = ap (λ x. p *ℤ x -ℤ q *ℤ b) e ∙ (ap (λ x. p *ℤ pos 0 -ℤ q *ℤ x) f ∙ omega (arith, ints))

product_left : (p q a b : ℤ) → b ≡ pos 0 → p *ℤ a -ℤ q *ℤ b ≡ p *ℤ a
product_left p q a b f = ap (λ x. p *ℤ a -ℤ q *ℤ x) f ∙ omega (arith, ints)

nonzero_product : (p a : ℤ) → p ≢ pos 0 → a ≢ pos 0 → pos (unsigned_abs p) *ℤ a ≢ pos 0
nonzero_product p a hp ha e = ha (int_eq_of_mul_left a (pos 0) (pos (unsigned_abs p)) (λ n. hp (omega (arith, ints))) (e ∙ omega (arith, ints)))

flip : (a c : ℤ) → a *ℤ c ≡ neg_ℤ (a *ℤ neg_ℤ c)
flip a c = simp mults (omega (arith, ints))

-- what is taken away of the cost row: the ratio's column moves the turned row down, and its cost entry has the opposite sign
taken_is : (b : Bound) (high : Bool) (basic p z w : ℤ) → Lowers high (turned_by b basic p) → (high ≡ true → z ≤ℤ pos 0) → (high ≡ false → pos 0 ≤ℤ z)
    → turned p z *ℤ w ≡ neg_ℤ (pos (unsigned_abs z) *ℤ turned_by b basic w)
taken_is b true basic p z w h up down =
    elim (turns b basic) [
      | inl f ↦ ap (λ x. x *ℤ w) (turned_above p z (let e = f p in omega (arith, ints))) ∙ (ap (λ x. x *ℤ w) (size_below z (up refl)) ∙ (int_neg_mul (pos (unsigned_abs z)) w ∙ ap (λ x. neg_ℤ (pos (unsigned_abs z) *ℤ x)) (sym (f w))))
      | inr f ↦ ap (λ x. x *ℤ w) (turned_below p z (let e = f p in omega (arith, ints))) ∙ (ap (λ x. x *ℤ w) (neg_size_below z (up refl)) ∙ (flip (pos (unsigned_abs z)) w ∙ ap (λ x. neg_ℤ (pos (unsigned_abs z) *ℤ x)) (sym (f w))))
    ]
taken_is b false basic p z w h up down =
    elim (turns b basic) [
      | inl f ↦ ap (λ x. x *ℤ w) (turned_below p z (let e = f p in omega (arith, ints))) ∙ (ap (λ x. x *ℤ w) (neg_size_above z (down refl)) ∙ (int_neg_mul (pos (unsigned_abs z)) w ∙ ap (λ x. neg_ℤ (pos (unsigned_abs z) *ℤ x)) (sym (f w))))
      | inr f ↦ ap (λ x. x *ℤ w) (turned_above p z (let e = f p in omega (arith, ints))) ∙ (ap (λ x. x *ℤ w) (size_above z (down refl)) ∙ (flip (pos (unsigned_abs z)) w ∙ ap (λ x. neg_ℤ (pos (unsigned_abs z) *ℤ x)) (sym (f w))))
    ]

-- the ratio of two columns, with their signs known
ratio_is : (z w zc p : ℤ) → pos 0 ≤ℤ z → w <ℤ pos 0 → unsigned_abs zc * unsigned_abs w ≤ unsigned_abs z * unsigned_abs p
    → pos 0 ≤ℤ (pos (unsigned_abs p) *ℤ z -ℤ neg_ℤ (pos (unsigned_abs zc) *ℤ w))
ratio_is (pos z) (negsuc w) zc p hz hw h = omega (arith, ints)
ratio_is (pos z) (pos w) zc p hz hw h = absurd (omega (arith, ints))
ratio_is (negsuc z) w zc p hz hw h = absurd (omega (arith, ints))

module _ (t : Tableau) (laws : HasLaws t) (ordered : IsOrdered t.given) (i c : ℕ) (b : Bound) (good : IsGoodAt t i c b)
    (entry : ℕ → ℕ → ℤ) (basis : ℕ → ℕ) (at_high : ℕ → Bool)
    (result : IsResultAt t i c b (record { given = t.given; entry = entry; basis = basis; at_high = at_high })) where
  abbrev g : Given
  g = t.given

  abbrev after : Tableau
  after = record { given = t.given; entry = entry; basis = basis; at_high = at_high }

  abbrev p : ℤ
  p = t.entry i c

  pub pivot_lowers : Lowers (t.at_high c) (turned_by b (basic_entry t i) (t.entry i c))
  pivot_lowers = toward_lowers b (t.at_high c) (t.entry i c) (basic_entry t i) good.eligible.toward

  pub pivot_some : t.entry i c ≢ pos 0
  pivot_some = lowers_some b (t.at_high c) (t.entry i c) (basic_entry t i) pivot_lowers

  size_positive : pos 0 <ℤ pos (unsigned_abs p)
  size_positive = let h = pivot_some in omega (arith, ints)

  -- a row is as it was, or is reduced and divided
  abbrev pub IsSame : ℕ → Type 0
  IsSame k = ((k ≡ i) ⊎ (t.entry k c ≡ pos 0)) × ((j : ℕ) → j ≤ last_column g → entry k j ≡ t.entry k j)

  abbrev pub IsNew : ℕ → Type 0
  IsNew k = (k ≢ i) × (t.entry k c ≢ pos 0) × IsDivided (last_column g) (reduced t i c k) (entry k)

  pub row_cases : (k : ℕ) → k ≤ g.rows → IsSame k ⊎ IsNew k
  row_cases k within = ⊎_elim
      (λ (e : k ≡ i). inl (inl e, (result.rows k within).same (inl e)))
      (λ (differ : k ≢ i). ⊎_elim
      (λ (e : t.entry k c ≡ pos 0). inl (inr e, (result.rows k within).same (inr e)))
      (λ (some : t.entry k c ≢ pos 0). inr (differ, some, (result.rows k within).divided differ some))
      (zero_or_not (t.entry k c)))
      (same_or_not k i)

  i_row : i ≤ g.rows
  i_row = good.row.1

  line_at : (k : ℕ) → k ≤ g.rows → IsCombination g (entry k)
  line_at k within = ⊎_elim
      (λ (h : IsSame k). combination_same g (t.entry k) (entry k) h.1 (laws.rows.combinations k within))
      (λ (h : IsNew k). let d = h.2 in
      combination_divided g d.divisor (reduced t i c k) (entry k) (λ e. let q = d.positive in omega (arith, ints)) d.each
      (combination_reduced g (pos (unsigned_abs p)) (turned p (t.entry k c)) (t.entry k) (t.entry i)
      (laws.rows.combinations k within) (laws.rows.combinations i i_row)))
      (row_cases k within)

  zero_at : (k j : ℕ) → k ≤ g.rows → j ≤ last_column g → t.entry k j ≡ pos 0 → t.entry i j ≡ pos 0 → entry k j ≡ pos 0
  zero_at k j within last e f = ⊎_elim
      (λ (h : IsSame k). h.1 j last ∙ e)
      (λ (h : IsNew k). let d = h.2 in
      quotient_zero d.divisor (entry k j) (reduced t i c k j) d.positive (d.each j last)
      (product_zero (pos (unsigned_abs p)) (turned p (t.entry k c)) (t.entry k j) (t.entry i j) e f))
      (row_cases k within)

  no_scale : (k : ℕ) → IsRow t k → entry k 0 ≡ pos 0
  no_scale k row = zero_at k 0 row.1 (omega arith) (laws.rows.no_scale k row) (laws.rows.no_scale i good.row)

  scale : pos 1 ≤ℤ entry 0 0
  scale = ⊎_elim
      (λ (h : IsSame 0). let e = h.1 0 (omega arith) in let l = laws.rows.scale in omega (arith, ints))
      (λ (h : IsNew 0). let d = h.2 in
      let e = product_left (pos (unsigned_abs p)) (turned p (t.entry 0 c)) (t.entry 0 0) (t.entry i 0) (laws.rows.no_scale i good.row) in
      let l = int_mul_pos (pos (unsigned_abs p)) (t.entry 0 0) size_positive (let s = laws.rows.scale in omega (arith, ints)) in
      let m = quotient_positive d.divisor (entry 0 0) (reduced t i c 0 0) d.positive (d.each 0 (omega arith)) (let P : ℤ → Type 0 = λ x. pos 0 <ℤ x in subst P (sym e) l) in
      omega (arith, ints))
      (row_cases 0 (omega arith))

  pub rows_kept : HasRows after
  rows_kept = record { combinations = line_at; no_scale = no_scale; scale = scale }

  c_column : c ≤ last_column g
  c_column = good.eligible.column.1

  -- the entering column has an entry in its row alone
  entering_alone : (k : ℕ) → k ≤ g.rows → k ≢ i → entry k c ≡ pos 0
  entering_alone k within differ = ⊎_elim
      (λ (h : IsSame k). h.1 c c_column ∙ ⊎_elim (λ (e : k ≡ i). absurd (differ e)) (λ (e : t.entry k c ≡ pos 0). e) h.0)
      (λ (h : IsNew k). let d = h.2 in
      quotient_zero d.divisor (entry k c) (reduced t i c k c) d.positive (d.each c c_column)
      (ap (λ x. pos (unsigned_abs p) *ℤ t.entry k c -ℤ x) (turned_times p (t.entry k c)) ∙ omega (arith, ints)))
      (row_cases k within)

  same_row : (j : ℕ) → j ≤ last_column g → entry i j ≡ t.entry i j
  same_row = (result.rows i i_row).same (inl refl)

  column_kept : (k : ℕ) → IsRow t k → IsColumn t (basis k)
  column_kept k row = ⊎_elim
      (λ (e : k ≡ i). let P : ℕ → Type 0 = λ x. IsColumn t x in subst P (sym (ap basis e ∙ result.entering)) good.eligible.column)
      (λ (differ : k ≢ i). let P : ℕ → Type 0 = λ x. IsColumn t x in subst P (sym (result.basis k row differ)) (laws.basis.column k row))
      (same_or_not k i)

  entry_kept : (k : ℕ) → IsRow t k → entry k (basis k) ≢ pos 0
  entry_kept k row = ⊎_elim
      (λ (e : k ≡ i). let P : ℕ → Type 0 = λ x. entry x (basis x) ≢ pos 0 in
      let Q : ℤ → Type 0 = λ x. x ≢ pos 0 in
      subst P (sym e) (subst Q (sym (ap (entry i) result.entering ∙ same_row c c_column)) pivot_some))
      (λ (differ : k ≢ i).
      let old : t.basis k ≤ last_column g = (laws.basis.column k row).1 in
      let Q : ℕ → Type 0 = λ x. entry k x ≢ pos 0 in
      subst Q (sym (result.basis k row differ)) (⊎_elim
      (λ (h : IsSame k). λ z. laws.basis.entry k row (sym (h.1 (t.basis k) old) ∙ z))
      (λ (h : IsNew k). let d = h.2 in
      let e = product_left (pos (unsigned_abs p)) (turned p (t.entry k c)) (t.entry k (t.basis k)) (t.entry i (t.basis k))
      (laws.basis.alone i k i_row row (λ e. differ (sym e))) in
      quotient_some d.divisor (entry k (t.basis k)) (reduced t i c k (t.basis k)) (d.each (t.basis k) old)
      (λ z. nonzero_product p (t.entry k (t.basis k)) pivot_some (laws.basis.entry k row) (sym e ∙ z)))
      (row_cases k row.1)))
      (same_or_not k i)

  alone_kept : (l k : ℕ) → l ≤ g.rows → IsRow t k → l ≢ k → entry l (basis k) ≡ pos 0
  alone_kept l k within row differ = ⊎_elim
      (λ (e : k ≡ i). ap (entry l) (ap basis e ∙ result.entering) ∙ entering_alone l within (λ f. differ (f ∙ sym e)))
      (λ (other : k ≢ i).
      ap (entry l) (result.basis k row other)
      ∙ zero_at l (t.basis k) within (laws.basis.column k row).1 (laws.basis.alone l k within row differ)
      (laws.basis.alone i k i_row row (λ e. other (sym e))))
      (same_or_not k i)

  pub basis_kept : HasBasis after
  basis_kept = record { column = column_kept; entry = entry_kept; alone = alone_kept }

  -- the entering column's cost entry has the sign of its bound
  cost_at_high : t.at_high c ≡ true → t.entry 0 c ≤ℤ pos 0
  cost_at_high high = ⊎_elim
      (λ (l : c ≤ g.columns). ⊎_elim
      (λ (above : pos 0 <ℤ t.entry 0 c). let e = laws.signs.above c good.eligible.column.0 l above in absurd (cc))
      (λ (s : t.entry 0 c ≤ℤ pos 0). s)
      (int_lt_or_le (pos 0) (t.entry 0 c)))
      (λ (l : g.columns < c). let e = laws.signs.slacks_low c l c_column in absurd (cc))
      (cases_le c g.columns)
    where
      cases_le : (x y : ℕ) → (x ≤ y) ⊎ (y < x)
      cases_le x y = grind arith

  cost_at_low : t.at_high c ≡ false → pos 0 ≤ℤ t.entry 0 c
  cost_at_low low = ⊎_elim
      (λ (l : c ≤ g.columns). ⊎_elim
      (λ (below : t.entry 0 c <ℤ pos 0). let e = laws.signs.below c good.eligible.column.0 l below in absurd (cc))
      (λ (s : pos 0 ≤ℤ t.entry 0 c). s)
      (int_lt_or_le (t.entry 0 c) (pos 0)))
      (λ (l : g.columns < c). laws.signs.slacks c l c_column (no_upper c l c_column good.eligible.movable))
      (cases_le c g.columns)
    where
      cases_le : (x y : ℕ) → (x ≤ y) ⊎ (y < x)
      cases_le x y = grind arith

      bool_cases : (x : Bool) → (x ≡ true) ⊎ (x ≡ false)
      bool_cases true = inl refl
      bool_cases false = inr refl

      no_upper : (j : ℕ) → g.columns < j → j ≤ last_column g → IsMovable g j → g.has_high j ≡ false
      no_upper j l m movable = ⊎_elim
          (λ (e : g.has_high j ≡ true). absurd (movable e (ordered.fixed j l m e)))
          (λ (e : g.has_high j ≡ false). e)
          (bool_cases (g.has_high j))

  -- a column other than the row's basic one with an entry in the row is nonbasic
  pub other_nonbasic : (j : ℕ) → t.basis i ≢ j → t.entry i j ≢ pos 0 → IsNonbasic t j
  other_nonbasic j differ some k row e = ⊎_elim
      (λ (f : i ≡ k). differ (ap t.basis f ∙ e))
      (λ (f : i ≢ k). some (ap (t.entry i) (sym e) ∙ laws.basis.alone i k i_row row f))
      (same_or_not i k)

  slack_kept : (j : ℕ) → g.columns < j → j ≤ last_column g → g.has_high j ≡ false → pos 0 ≤ℤ entry 0 j
  slack_kept j low last no_high = ⊎_elim
      (λ (h : IsSame 0). let e = h.1 j last in let o = own in omega (arith, ints))
      (λ (h : IsNew 0). let d = h.2 in
      let e = taken_is b (t.at_high c) (basic_entry t i) p (t.entry 0 c) (t.entry i j) pivot_lowers cost_at_high cost_at_low in
      quotient_nonneg d.divisor (entry 0 j) (reduced t i c 0 j) d.positive (d.each j last)
      (let P : ℤ → Type 0 = λ x. pos 0 ≤ℤ (pos (unsigned_abs p) *ℤ t.entry 0 j -ℤ x) in subst P (sym e) lowered))
      (row_cases 0 (omega arith))
    where
      own : pos 0 ≤ℤ t.entry 0 j
      own = laws.signs.slacks j low last no_high

      v : ℤ
      v = turned_by b (basic_entry t i) (t.entry i j)

      -- the basic column of the row breaks its lower bound where it has no upper one, so that its turned entry is above 0
      breaks : (x : Bound) → IsOutside t i x → t.basis i ≡ j → pos 0 <ℤ turned_by x (basic_entry t i) (t.entry i j)
      breaks Lower out e = let P : ℕ → Type 0 = λ x. pos 0 <ℤ turned (basic_entry t i) (t.entry i x) in subst P e (turned_same (basic_entry t i) (basic_entry t i) (own_sign (basic_entry t i) (laws.basis.entry i good.row)))
        where
          own_sign : (x : ℤ) → x ≢ pos 0 → ((pos 0 <ℤ x) × (pos 0 <ℤ x)) ⊎ ((x <ℤ pos 0) × (x <ℤ pos 0))
          own_sign x some = ⊎_elim (λ (l : x <ℤ pos 0). inr (l, l)) (λ (l : pos 0 ≤ℤ x). inl (omega (arith, ints), omega (arith, ints))) (int_lt_or_le x (pos 0))
      breaks Upper out e = let f = ap g.has_high e in let h = out.0 in absurd (cc)

      lowered : pos 0 ≤ℤ (pos (unsigned_abs p) *ℤ t.entry 0 j -ℤ neg_ℤ (pos (unsigned_abs (t.entry 0 c)) *ℤ turned_by b (basic_entry t i) (t.entry i j)))
      lowered = ⊎_elim
          (λ (l : turned_by b (basic_entry t i) (t.entry i j) <ℤ pos 0).
          let stands = laws.signs.slacks_low j low last in
          let L : Bool → Type 0 = λ x. Lowers x (turned_by b (basic_entry t i) (t.entry i j)) in
          let lowers = subst L (sym stands) l in
          let some = lowers_some b (t.at_high j) (t.entry i j) (basic_entry t i) lowers in
          let differ : t.basis i ≢ j = λ e. let q = breaks b good.outside e in omega (arith, ints) in
          let m : 1 ≤ j = omega arith in
          let eligible : IsEligible t i b j = record {
            column = (m, last);
            nonbasic = other_nonbasic j differ some;
            movable = λ e. absurd (cc);
            toward = lowers_toward b (t.at_high j) (t.entry i j) (basic_entry t i) (laws.basis.entry i good.row) lowers;
          } in
          let r = good.least j eligible in
          ratio_is (t.entry 0 j) (turned_by b (basic_entry t i) (t.entry i j)) (t.entry 0 c) p own l
          (let R : ℕ → Type 0 = λ x. unsigned_abs (t.entry 0 c) * x ≤ unsigned_abs (t.entry 0 j) * unsigned_abs p in
          subst R (sym (turned_magnitude b (basic_entry t i) (t.entry i j))) r))
          (λ (l : pos 0 ≤ℤ turned_by b (basic_entry t i) (t.entry i j)).
          let x = int_mul_nonneg (pos (unsigned_abs p)) (t.entry 0 j) (omega (arith, ints)) own in
          let y = int_mul_nonneg (pos (unsigned_abs (t.entry 0 c))) (turned_by b (basic_entry t i) (t.entry i j)) (omega (arith, ints)) l in
          omega (arith, ints))
          (int_lt_or_le (turned_by b (basic_entry t i) (t.entry i j)) (pos 0))

  pub signs_kept : HasSigns after
  signs_kept = record {
    above = λ j low high. (result.standing j low high).above;
    below = λ j low high. (result.standing j low high).below;
    slacks = slack_kept;
    slacks_low = result.slacks_low;
  }

  pub laws_kept : HasLaws after
  laws_kept = record { rows = rows_kept; basis = basis_kept; signs = signs_kept }

-- the result of a good exchange has the laws
pub laws_of_result : (t : Tableau) (i c : ℕ) (b : Bound) (t' : Tableau) → HasLaws t → IsOrdered t.given → IsGoodAt t i c b → IsResultAt t i c b t' → HasLaws t'
laws_of_result t i c b t' laws ordered good result =
    let same : record { given = t.given; entry = t'.entry; basis = t'.basis; at_high = t'.at_high } ≡ t' = λ x. record { given = sym result.given x; entry = t'.entry; basis = t'.basis; at_high = t'.at_high } in
    let back : IsResultAt t i c b (record { given = t.given; entry = t'.entry; basis = t'.basis; at_high = t'.at_high }) = record {
      given = refl;
      rows = result.rows;
      entering = result.entering;
      basis = result.basis;
      standing = λ j low high. let s = result.standing j low high in record { above = s.above; below = s.below; stays = s.stays; breaks_low = s.breaks_low; breaks_high = s.breaks_high };
      slacks_low = result.slacks_low;
    } in
    let P : Tableau → Type 0 = λ x. HasLaws x in
    subst P same (laws_kept t laws ordered i c b good t'.entry t'.basis t'.at_high back)
