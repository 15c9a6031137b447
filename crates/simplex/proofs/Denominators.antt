-- Least common denominators of basic values, joined one by one, and the point over one.
use Rattle.std.proofs.Common.{◌≡◌, ℕ, ◌+◌, ◌≤◌, ◌<◌, ◌⊎◌, inl, inr, arith, ap, sym, ◌∙◌, refl, subst, ⊎_elim}
use Rattle.std.specs.Prelude.{ℤ, pos, neg_ℤ, ◌≢◌, ◌+ℤ◌, ◌*ℤ◌, ◌<ℤ◌, unsigned_abs}
use Rattle.std.proofs.lemmas.Int.{ints}
use Rattle.algebra.proofs.Products.{mults, int_mul_assoc, int_mul_comm, int_mul_neg}
use Rattle.algebra.proofs.Order.{int_eq_of_mul_left, int_eq_of_mul_right, int_mul_pos, int_lt_of_mul_right}
use Rattle.numbers.specs.Divisors.{Divides, IsGreatestCommonDivisor}
use Rattle.numbers.proofs.DivisorsLemmas.{one_divides}
use Rattle.tableau.specs.Tableaux.{Tableau, IsRow, IsNonbasic, basic_entry, standing, rest}
use Rattle.tableau.specs.Ends.{Clears, ClearsTo, IsLeastDenominator, IsPointOfTableau, IsOptimal}
use Rattle.tableau.specs.Laws.{HasLaws}
use Rattle.tableau.specs.Operations.{IsOutOfRange}
use Rattle.tableau.specs.declared.op.Op.TheVariants.{Join}
use Rattle.tableau.proofs.EndsLemmas.{basic_or_not}
use Rattle.sparse_rows.proofs.Common.{gcd_scaled}
use Rattle.simplex.specs.inside.Joins.{IsJoined}

same_or_not : (i k : ℕ) → (i ≡ k) ⊎ (i ≢ k)
same_or_not i k = grind arith

-- ---- whole numbers

swap_middle : (a b c : ℤ) → a *ℤ b *ℤ c ≡ a *ℤ c *ℤ b
swap_middle a b c = simp mults (omega (arith, ints))

-- e divides d times r exactly where e over their greatest common divisor divides d
module _ (e r g q : ℤ) (is : IsGreatestCommonDivisor e r g) (some : e ≢ pos 0) (part : q *ℤ g ≡ e) where
  pub divisor_some : g ≢ pos 0
  divisor_some z = some (sym part ∙ (ap (λ x. q *ℤ x) z ∙ omega (arith, ints)))

  pub part_some : q ≢ pos 0
  part_some z = some (sym part ∙ (ap (λ x. x *ℤ g) z ∙ omega (arith, ints)))

  pub part_divides : (d : ℤ) → Divides e (d *ℤ r) → Divides q d
  part_divides d h =
      let k = gcd_scaled e r g d e is (d, int_mul_comm d e) h in
      (k.0, int_eq_of_mul_right d (q *ℤ k.0) g divisor_some (k.1 ∙ (ap (λ x. x *ℤ k.0) (sym part) ∙ swap_middle q g k.0)))

  pub divides_part : (d : ℤ) → Divides q d → Divides e (d *ℤ r)
  divides_part d h =
      let s = is.divides_right in
      (h.0 *ℤ s.0, ap (λ x. x *ℤ r) h.1 ∙ (ap (λ x. q *ℤ h.0 *ℤ x) s.1 ∙ (four q h.0 g s.0 ∙ ap (λ x. x *ℤ (h.0 *ℤ s.0)) part)))
    where
      four : (a b c d : ℤ) → a *ℤ b *ℤ (c *ℤ d) ≡ a *ℤ c *ℤ (b *ℤ d)
      four a b c d = simp mults (omega (arith, ints))

-- the magnitude divides the same numbers
size_divides : (q m d : ℤ) → m ≡ pos (unsigned_abs q) → Divides q d → Divides m d
size_divides (pos a) m d e h = (h.0, h.1 ∙ ap (λ x. x *ℤ h.0) (sym e))
size_divides q m d e h = ⊎_elim
    (λ (p : m ≡ q). (h.0, h.1 ∙ ap (λ x. x *ℤ h.0) (sym p)))
    (λ (p : m ≡ neg_ℤ q). (neg_ℤ h.0, h.1 ∙ (both q h.0 ∙ ap (λ x. x *ℤ neg_ℤ h.0) (sym p))))
    (signs q m e)
  where
    both : (a b : ℤ) → a *ℤ b ≡ neg_ℤ a *ℤ neg_ℤ b
    both a b = simp mults (omega (arith, ints))

    signs : (a b : ℤ) → b ≡ pos (unsigned_abs a) → (b ≡ a) ⊎ (b ≡ neg_ℤ a)
    signs a b e = grind (arith, ints)

divides_size : (q m d : ℤ) → m ≡ pos (unsigned_abs q) → Divides m d → Divides q d
divides_size q m d e h = ⊎_elim
    (λ (p : m ≡ q). (h.0, h.1 ∙ ap (λ x. x *ℤ h.0) p))
    (λ (p : m ≡ neg_ℤ q). (neg_ℤ h.0, h.1 ∙ (ap (λ x. x *ℤ h.0) p ∙ across q h.0)))
    (signs q m e)
  where
    across : (a b : ℤ) → neg_ℤ a *ℤ b ≡ a *ℤ neg_ℤ b
    across a b = simp mults (omega (arith, ints))

    signs : (a b : ℤ) → b ≡ pos (unsigned_abs a) → (b ≡ a) ⊎ (b ≡ neg_ℤ a)
    signs a b e = grind (arith, ints)

-- the joined denominator: d times the magnitude m of the part q over its greatest common divisor h with d
module _ (d e r g q m h f z : ℤ) (positive : pos 0 <ℤ d) (is : IsGreatestCommonDivisor e r g) (some : e ≢ pos 0) (part : q *ℤ g ≡ e) (size : m ≡ pos (unsigned_abs q))
    (shared : IsGreatestCommonDivisor d m h) (factor : f *ℤ h ≡ m) (product : z ≡ d *ℤ f) where
  m_positive : pos 0 <ℤ m
  m_positive = let p = part_some e r g q is some part in omega (arith, ints)

  pub shared_some : h ≢ pos 0
  shared_some zero_h = let p = m_positive in let k = sym factor ∙ (ap (λ x. f *ℤ x) zero_h) in let l : f *ℤ pos 0 ≡ pos 0 = omega (arith, ints) in omega (arith, ints)

  h_positive : pos 0 <ℤ h
  h_positive = let n = shared.not_negative in let s = shared_some in omega (arith, ints)

  f_positive : pos 0 <ℤ f
  f_positive = let p = m_positive in
      int_lt_of_mul_right (pos 0) f h shared.not_negative (let l : pos 0 *ℤ h ≡ pos 0 = omega (arith, ints) in omega (arith, ints))

  multiple_of_part : Divides m z
  multiple_of_part =
      let s = shared.divides_left in
      (s.0, product ∙ (ap (λ x. x *ℤ f) s.1 ∙ (turn h s.0 f ∙ ap (λ x. x *ℤ s.0) factor)))
    where
      turn : (a b c : ℤ) → a *ℤ b *ℤ c ≡ c *ℤ a *ℤ b
      turn a b c = simp mults (omega (arith, ints))

  least_joined : (other : ℤ) → Divides d other → Divides m other → Divides z other
  least_joined other p k =
      let left : Divides (d *ℤ m) (other *ℤ d) = (k.0, ap (λ x. x *ℤ d) k.1 ∙ order m k.0 d) in
      let right : Divides (d *ℤ m) (other *ℤ m) = (p.0, ap (λ x. x *ℤ m) p.1 ∙ swap_middle d p.0 m) in
      let all = gcd_scaled d m h other (d *ℤ m) shared left right in (
        all.0,
        int_eq_of_mul_right other (z *ℤ all.0) h shared_some
            (all.1 ∙ (ap (λ x. d *ℤ x *ℤ all.0) (sym factor) ∙ (regroup d f h all.0 ∙ ap (λ x. x *ℤ all.0 *ℤ h) (sym product)))),
      )
    where
      order : (a b c : ℤ) → a *ℤ b *ℤ c ≡ c *ℤ a *ℤ b
      order a b c = simp mults (omega (arith, ints))

      regroup : (a b c k : ℤ) → a *ℤ (b *ℤ c) *ℤ k ≡ a *ℤ b *ℤ k *ℤ c
      regroup a b c k = simp mults (omega (arith, ints))

  pub joined_by : IsJoined d e r z
  joined_by = record {
    positive = (let p = int_mul_pos d f positive f_positive in let s = product in omega (arith, ints));
    multiple = (f, product);
    clears = divides_part e r g q is some part z (divides_size q m z size multiple_of_part);
    least = λ other p k. least_joined other p (size_divides q m other size (part_divides e r g q is some part other k));
  }

-- ---- tableaux

pub denominator_none : (t : Tableau) (den : ℤ) → den ≡ pos 1 → IsLeastDenominator t 0 den
denominator_none t den e = record {
  positive = omega (arith, ints);
  clears = λ i low high. absurd (omega arith);
  least = λ other h. subst (λ (x : ℤ). Divides x other) (sym e) (one_divides other);
}

pub denominator_more : (t : Tableau) (k : ℕ) (den next : ℤ) → IsLeastDenominator t k den → IsJoined den (basic_entry t (k + 1)) (rest t (k + 1)) next → IsLeastDenominator t (k + 1) next
denominator_more t k den next h joined = record {
  positive = joined.positive;
  clears = λ i low high. ⊎_elim
      (λ (e : k + 1 ≡ i). subst (λ (x : ℕ). Clears t x next) e joined.clears)
      (λ (e : k + 1 ≢ i). let c = h.clears i low (omega arith) in let m = joined.multiple in
      (c.0 *ℤ m.0, ap (λ x. x *ℤ rest t i) m.1 ∙ (swap_middle den m.0 (rest t i) ∙ (ap (λ x. x *ℤ m.0) c.1 ∙ int_mul_assoc (basic_entry t i) c.0 m.0))))
      (same_or_not (k + 1) i);
  least = λ other all. joined.least other (h.least other (λ i low high. all i low (omega arith))) (all (k + 1) (omega arith) (omega arith));
}

pub wide_join : (t : Tableau) (greatest k : ℕ) (den z : ℤ) → IsOptimal t → k + 1 ≤ t.given.rows → IsLeastDenominator t k den → IsJoined den (basic_entry t (k + 1)) (rest t (k + 1)) z → greatest < unsigned_abs z → IsOutOfRange greatest t (Join (k + 1))
wide_join t greatest k den z optimal within h joined wide = (z, record { optimal = optimal; row = within; value = inl (denominator_more t k den z h joined) }, wide)

-- a denominator that clears all basic values has a point over it
module _ (t : Tableau) (laws : HasLaws t) (den : ℤ) (clears : ClearsTo t t.given.rows den) where
  Case : ℕ → Type 0
  Case j = ((k : ℕ) × (1 ≤ k) × (k ≤ t.given.rows) × (t.basis k ≡ j)) ⊎ ((k : ℕ) → 1 ≤ k → k ≤ t.given.rows → t.basis k ≢ j)

  abbrev coordinate_by : (j : ℕ) → (((k : ℕ) × (1 ≤ k) × (k ≤ t.given.rows) × (t.basis k ≡ j)) ⊎ ((k : ℕ) → 1 ≤ k → k ≤ t.given.rows → t.basis k ≢ j)) → ℤ
  coordinate_by j (inl k) = neg_ℤ (clears k.0 k.1 k.2).0
  coordinate_by j (inr free) = den *ℤ standing t j

  abbrev pub coordinates : ℕ → ℤ
  coordinates j = coordinate_by j (basic_or_not t.basis j t.given.rows)

  at_nonbasic : (j : ℕ) (c : ((k : ℕ) × (1 ≤ k) × (k ≤ t.given.rows) × (t.basis k ≡ j)) ⊎ ((k : ℕ) → 1 ≤ k → k ≤ t.given.rows → t.basis k ≢ j)) → IsNonbasic t j → coordinate_by j c ≡ den *ℤ standing t j
  at_nonbasic j (inl k) free = absurd (free k.0 (k.1, k.2) k.3)
  at_nonbasic j (inr none) free = refl

  at_basic : (i : ℕ) (row : IsRow t i) (c : ((k : ℕ) × (1 ≤ k) × (k ≤ t.given.rows) × (t.basis k ≡ t.basis i)) ⊎ ((k : ℕ) → 1 ≤ k → k ≤ t.given.rows → t.basis k ≢ t.basis i))
      → basic_entry t i *ℤ coordinate_by (t.basis i) c +ℤ den *ℤ rest t i ≡ pos 0
  at_basic i row (inl k) = ⊎_elim
      (λ (e : k.0 ≡ i).
      subst (λ (x : ℕ). basic_entry t x *ℤ neg_ℤ (clears k.0 k.1 k.2).0 +ℤ den *ℤ rest t x ≡ pos 0) e
      (closes (basic_entry t k.0) (clears k.0 k.1 k.2).0 (den *ℤ rest t k.0) (clears k.0 k.1 k.2).1))
      (λ (e : k.0 ≢ i). absurd (laws.basis.entry i row (ap (t.entry i) (sym k.3) ∙ laws.basis.alone i k.0 row.1 (k.1, k.2) (λ q. e (sym q)))))
      (same_or_not k.0 i)
    where
      closes : (a b c : ℤ) → c ≡ a *ℤ b → a *ℤ neg_ℤ b +ℤ c ≡ pos 0
      closes a b c e = let m = int_mul_neg a b in omega (arith, ints)
  at_basic i row (inr none) = absurd (none i row.0 row.1 refl)

  pub point_over : IsPointOfTableau t den coordinates
  point_over = record {
    nonbasic = λ j column free. at_nonbasic j (basic_or_not t.basis j t.given.rows) free;
    basic = λ i row. at_basic i row (basic_or_not t.basis (t.basis i) t.given.rows);
  }

-- a coordinate out of range
pub wide_coordinate : (t : Tableau) (greatest : ℕ) (den : ℤ) (j : ℕ) → HasLaws t → IsOptimal t → IsLeastDenominator t t.given.rows den → 1 ≤ j → j ≤ t.given.columns
    → ((x : ℕ → ℤ) → IsPointOfTableau t den x → greatest < unsigned_abs (x j)) → IsOutOfRange greatest t (Join t.given.rows)
wide_coordinate t greatest den j laws optimal least first last wide =
    let x = coordinates t laws den least.clears in
    let p = point_over t laws den least.clears in (
      coordinates t laws den least.clears j,
      record { optimal = optimal; row = omega arith; value = inr (refl, (den, coordinates t laws den least.clears, j, least, p, first, last, refl)) },
      wide (coordinates t laws den least.clears) p,
    )

-- the denominator itself out of range
pub wide_denominator : (t : Tableau) (greatest : ℕ) (den : ℤ) → IsOptimal t → IsLeastDenominator t t.given.rows den → greatest < unsigned_abs den → IsOutOfRange greatest t (Join t.given.rows)
wide_denominator t greatest den optimal least wide = (den, record { optimal = optimal; row = omega arith; value = inl least }, wide)

-- ---- one numerator

numerator_closes : (e q g r r' d m n x : ℤ) → q *ℤ g ≡ e → r' *ℤ g ≡ r → m *ℤ q ≡ d → n ≡ r' *ℤ m → x ≡ neg_ℤ n → e *ℤ x +ℤ d *ℤ r ≡ pos 0
numerator_closes e q g r r' d m n x a b c f h =
    let left : e *ℤ x ≡ neg_ℤ (q *ℤ g *ℤ (r' *ℤ m)) = ap (λ z. e *ℤ z) (h ∙ ap neg_ℤ f) ∙ (ap (λ z. z *ℤ neg_ℤ (r' *ℤ m)) (sym a) ∙ int_mul_neg (q *ℤ g) (r' *ℤ m)) in
    let right : d *ℤ r ≡ q *ℤ g *ℤ (r' *ℤ m) = ap (λ z. z *ℤ r) (sym c) ∙ (ap (λ z. m *ℤ q *ℤ z) (sym b) ∙ order m q r' g) in
    omega (arith, ints)
  where
    order : (m q r g : ℤ) → m *ℤ q *ℤ (r *ℤ g) ≡ q *ℤ g *ℤ (r *ℤ m)
    order m q r g = simp mults (omega (arith, ints))

pub numerator_by : (e e' q g r r' d m n x : ℤ) → e ≡ e' → q *ℤ g ≡ e → r' *ℤ g ≡ r → m *ℤ q ≡ d → n ≡ r' *ℤ m → x ≡ neg_ℤ n → e' *ℤ x +ℤ d *ℤ r ≡ pos 0
numerator_by e e' q g r r' d m n x s a b c f h = subst (λ (z : ℤ). z *ℤ x +ℤ d *ℤ r ≡ pos 0) s (numerator_closes e q g r r' d m n x a b c f h)

pub numerator_wide : (greatest : ℕ) (e e' q g r r' d m x : ℤ) → e ≡ e' → e' ≢ pos 0 → q *ℤ g ≡ e → r' *ℤ g ≡ r → m *ℤ q ≡ d → greatest < unsigned_abs (r' *ℤ m) → e' *ℤ x +ℤ d *ℤ r ≡ pos 0 → greatest < unsigned_abs x
numerator_wide greatest e e' q g r r' d m x s some a b c wide zero_sum =
    let one = numerator_by e e' q g r r' d m (r' *ℤ m) (neg_ℤ (r' *ℤ m)) s a b c refl refl in
    let same : x ≡ neg_ℤ (r' *ℤ m) = int_eq_of_mul_left x (neg_ℤ (r' *ℤ m)) e' some (omega (arith, ints)) in
    let size : unsigned_abs x ≡ unsigned_abs (r' *ℤ m) = ap unsigned_abs same ∙ neg_size (r' *ℤ m) in
    omega arith
  where
    neg_size : (z : ℤ) → unsigned_abs (neg_ℤ z) ≡ unsigned_abs z
    neg_size z = omega (arith, ints)

pub below_of_not : (m n : ℕ) → (m ≤ n → ⊥) → n < m
below_of_not m n h = ⊎_elim (λ (p : n < m). p) (λ (p : m ≤ n). absurd (h p)) (cases n m)
  where
    cases : (a b : ℕ) → (a < b) ⊎ (b ≤ a)
    cases a b = grind arith

-- the same join, for equal numbers
pub joined_at : (t : Tableau) (k : ℕ) (den e r next : ℤ) → e ≡ basic_entry t (k + 1) → r ≡ rest t (k + 1) → IsJoined den e r next → IsJoined den (basic_entry t (k + 1)) (rest t (k + 1)) next
joined_at t k den e r next p q h = subst (λ (x : ℤ). IsJoined den x (rest t (k + 1)) next) p (subst (λ (x : ℤ). IsJoined den e x next) q h)

-- a denominator clears the basic value of a row, for equal numbers
pub clears_at : (t : Tableau) (i : ℕ) (den e r : ℤ) → e ≡ basic_entry t i → r ≡ rest t i → Clears t i den → Divides e (den *ℤ r)
clears_at t i den e r p q h = subst (λ (x : ℤ). Divides x (den *ℤ r)) (sym p) (subst (λ (x : ℤ). Divides (basic_entry t i) (den *ℤ x)) (sym q) h)

-- the coordinate of a basic column is the number that makes its row 0
pub basic_is : (t : Tableau) (i : ℕ) (den e r z : ℤ) (x : ℕ → ℤ) → HasLaws t → IsRow t i → e ≡ basic_entry t i → r ≡ rest t i → e *ℤ z +ℤ den *ℤ r ≡ pos 0 → IsPointOfTableau t den x → x (t.basis i) ≡ z
basic_is t i den e r z x laws row p q zero_sum point =
    let own = point.basic i row in
    let left = ap (λ y. y *ℤ z) p in
    let right = ap (λ y. den *ℤ y) q in
    int_eq_of_mul_left (x (t.basis i)) z (basic_entry t i) (laws.basis.entry i row) (omega (arith, ints))

-- and where every such number is out of range, so is the coordinate
pub basic_wide : (t : Tableau) (greatest i : ℕ) (den e r : ℤ) → HasLaws t → IsOptimal t → IsLeastDenominator t t.given.rows den → IsRow t i → t.basis i ≤ t.given.columns → e ≡ basic_entry t i → r ≡ rest t i
    → ((x : ℤ) → e *ℤ x +ℤ den *ℤ r ≡ pos 0 → greatest < unsigned_abs x) → IsOutOfRange greatest t (Join t.given.rows)
basic_wide t greatest i den e r laws optimal least row structural p q wide =
    wide_coordinate t greatest den (t.basis i) laws optimal least (laws.basis.column i row).0 structural
    (λ x point. wide (x (t.basis i)) (let left = ap (λ y. y *ℤ x (t.basis i)) p in let right = ap (λ y. den *ℤ y) q in let own = point.basic i row in omega (arith, ints)))
