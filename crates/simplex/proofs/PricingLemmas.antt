-- The rows outside, one more row looked at.
use Rattle.std.proofs.Common.{◌≡◌, ℕ, ◌+◌, ◌-◌, ◌^◌, ◌≤◌, ◌<◌, ◌⊎◌, arith, ap, sym, ◌∙◌, refl, subst, ⊎_elim}
use Rattle.std.specs.Prelude.{◌≢◌, nat_lt, if◌then◌else◌}
use Rattle.tableau.specs.Tableaux.{Tableau, IsRow}
use Rattle.tableau.specs.Exchanges.{IsOutside}
use Rattle.tableau.specs.declared.bound.Bound.{Bound}
use Rattle.simplex.specs.inside.Pricing.{IsPriced}

same_or_not : (i k : ℕ) → (i ≡ k) ⊎ (i ≢ k)
same_or_not i k = grind arith

lt_or_le : (a b : ℕ) → (a < b) ⊎ (b ≤ a)
lt_or_le a b = grind arith

pub priced_begins : (t : Tableau) (fb ob : Bound) (fj o : ℕ) → fj ≡ 2 ^ 32 - 1 → IsPriced t 0 0 fb fj o ob
priced_begins t fb ob fj o e = record {
  none = λ _. (e, λ k b low high. absurd (omega arith));
  some = λ z. absurd (z refl);
  least = λ k b low high. absurd (omega arith);
  another = λ z. absurd (z refl);
}

-- the next row isn't outside
pub priced_inside : (t : Tableau) (done f : ℕ) (fb : Bound) (fj o : ℕ) (ob : Bound) → IsPriced t done f fb fj o ob → ((b : Bound) → IsOutside t (done + 1) b → ⊥) → IsPriced t (done + 1) f fb fj o ob
priced_inside t done f fb fj o ob h inside = record {
  none = λ z. (
    (h.none z).0,
    λ k b low high outside. ⊎_elim
        (λ (e : k ≡ done + 1). inside b (subst (λ (x : ℕ). IsOutside t x b) e outside))
        (λ (e : k ≢ done + 1). (h.none z).1 k b low (omega arith) outside)
        (same_or_not k (done + 1)),
  );
  some = h.some;
  least = λ k b low high outside. ⊎_elim
      (λ (e : k ≡ done + 1). absurd (inside b (subst (λ (x : ℕ). IsOutside t x b) e outside)))
      (λ (e : k ≢ done + 1). h.least k b low (omega arith) outside)
      (same_or_not k (done + 1));
  another = h.another;
}

if_true : {X : Type 0} (a b : ℕ) (x y : X) → a < b → (if nat_lt a b then x else y) ≡ x
if_true a b x y l = grind arith

if_false : {X : Type 0} (a b : ℕ) (x y : X) → b ≤ a → (if nat_lt a b then x else y) ≡ y
if_false a b x y l = grind arith

module _ (t : Tableau) (done f : ℕ) (fb : Bound) (fj o : ℕ) (ob : Bound) (h : IsPriced t done f fb fj o ob) (row : ℕ) (is : row ≡ done + 1) (i_row : IsRow t row) (b : Bound) (outside : IsOutside t row b)
    (basic : ℕ) (basic_is : t.basis row ≡ basic) (small : basic < 2 ^ 32 - 1) (o' : ℕ) (ob' : Bound)
    (larger : ((o' ≡ row) × (ob' ≡ b)) ⊎ ((o' ≡ o) × ((ob' ≡ ob) × (o ≢ 0)))) (known : o ≢ 0 → f ≢ 0) where
  row_some : row ≢ 0
  row_some z = let l = i_row.0 in omega arith

  least_more : (bound : ℕ) → bound ≤ fj → bound ≤ basic → (k : ℕ) (c : Bound) → 1 ≤ k → k ≤ done + 1 → IsOutside t k c → bound ≤ t.basis k
  least_more bound p q k c low high out = ⊎_elim
      (λ (e : k ≡ done + 1). let same = ap t.basis (e ∙ sym is) in omega arith)
      (λ (e : k ≢ done + 1). let l = h.least k c low (omega arith) out in omega arith)
      (same_or_not k (done + 1))

  other_row : IsRow t o' × IsOutside t o' ob'
  other_row = ⊎_elim
      (λ (p : (o' ≡ row) × (ob' ≡ b)).
      (subst (λ (x : ℕ). IsRow t x) (sym p.0) i_row, subst (λ (x : ℕ). IsOutside t x ob') (sym p.0) (subst (λ (x : Bound). IsOutside t row x) (sym p.1) outside)))
      (λ (p : (o' ≡ o) × ((ob' ≡ ob) × (o ≢ 0))).
      let old = h.another (known p.1.1) in
      (subst (λ (x : ℕ). IsRow t x) (sym p.0) old.0, subst (λ (x : ℕ). IsOutside t x ob') (sym p.0) (subst (λ (x : Bound). IsOutside t o x) (sym p.1.0) old.1)))
      larger

  pub priced_lesser : basic < fj → IsPriced t (done + 1) row b basic o' ob'
  priced_lesser less = record {
    none = λ z. absurd (row_some z);
    some = λ _. (i_row, outside, basic_is);
    least = least_more basic (omega arith) (omega arith);
    another = λ _. other_row;
  }

  pub priced_same : fj ≤ basic → IsPriced t (done + 1) f fb fj o' ob'
  priced_same more = record {
    none = λ z. let e = (h.none z).0 in absurd (omega arith);
    some = h.some;
    least = least_more fj (omega arith) more;
    another = λ _. other_row;
  }

  pub priced_outside : (first : ℕ × Bound × ℕ) → first ≡ (if nat_lt basic fj then (row, b, basic) else (f, fb, fj)) → IsPriced t (done + 1) first.0 first.1 first.2 o' ob'
  priced_outside first e = ⊎_elim
      (λ (l : basic < fj). subst (λ (x : ℕ × Bound × ℕ). IsPriced t (done + 1) x.0 x.1 x.2 o' ob') (sym (e ∙ if_true basic fj (row, b, basic) (f, fb, fj) l)) (priced_lesser l))
      (λ (l : fj ≤ basic). subst (λ (x : ℕ × Bound × ℕ). IsPriced t (done + 1) x.0 x.1 x.2 o' ob') (sym (e ∙ if_false basic fj (row, b, basic) (f, fb, fj) l)) (priced_same l))
      (lt_or_le basic fj)

  pub other_known : o' ≢ 0
  other_known z = ⊎_elim
      (λ (p : (o' ≡ row) × (ob' ≡ b)). row_some (sym p.0 ∙ z))
      (λ (p : (o' ≡ o) × ((ob' ≡ ob) × (o ≢ 0))). p.1.1 (sym p.0 ∙ z))
      larger

pub first_known : (t : Tableau) (done f : ℕ) (fb : Bound) (fj o : ℕ) (ob : Bound) → IsPriced t done f fb fj o ob → (row : ℕ) → row ≢ 0 → (b : Bound) (basic : ℕ) → basic < 2 ^ 32 - 1 → (first : ℕ × Bound × ℕ) → first ≡ (if nat_lt basic fj then (row, b, basic) else (f, fb, fj)) → first.0 ≢ 0
first_known t done f fb fj o ob h row some b basic small first e z = ⊎_elim
    (λ (l : basic < fj). some (sym (ap (λ x. x.0) (e ∙ if_true basic fj (row, b, basic) (f, fb, fj) l)) ∙ z))
    (λ (l : fj ≤ basic).
    let n = h.none (sym (ap (λ x. x.0) (e ∙ if_false basic fj (row, b, basic) (f, fb, fj) l)) ∙ z) in
    let k = n.0 in absurd (omega arith))
    (lt_or_le basic fj)
