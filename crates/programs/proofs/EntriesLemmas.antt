-- What one term adds to sums over the columns.
use Rattle.std.proofs.Common.{◌≡◌, ℕ, ◌*◌, ◌<◌, ◌≤◌, Bool, arith, ap, sym, ◌∙◌, refl, ⊎_elim}
use Rattle.std.specs.Prelude.{ℤ, pos, ◌*ℤ◌, unsigned_abs, if◌then◌else◌}
use Rattle.std.proofs.lemmas.Bool.{cases_lt, eq-eqb, ne_eqb}
use Rattle.term_store.specs.declared.term.Term.{Term}
use Rattle.algebra.specs.Sums.{sum_to}
use Rattle.algebra.specs.Totals.{total_to}
use Rattle.algebra.proofs.Products.{int_mul_zero, int_zero_mul}
use Rattle.algebra.proofs.SumsLemmas.{sum_to_only, sum_to_zero}
use Rattle.algebra.proofs.TotalsLemmas.{total_to_only, total_to_zero}
use Rattle.programs.specs.Programs.{entry}

pub entry_here : (t : Term ℤ) → entry t.column t ≡ t.value
entry_here t = ap (λ (b : Bool). if b then t.value else pos 0) (eq-eqb t.column t.column refl)

pub entry_elsewhere : (j : ℕ) (t : Term ℤ) → (j ≡ t.column → ⊥) → entry j t ≡ pos 0
entry_elsewhere j t h = ap (λ (b : Bool). if b then t.value else pos 0) (ne_eqb t.column j (λ e. h (sym e)))

product_elsewhere : (f : ℕ → ℤ) (j : ℕ) (t : Term ℤ) → (j ≡ t.column → ⊥) → entry j t *ℤ f j ≡ pos 0
product_elsewhere f j t h = ap (λ x. x *ℤ f j) (entry_elsewhere j t h) ∙ int_zero_mul (f j)

product_off : (f : ℕ → ℤ) (n : ℕ) (t : Term ℤ) → f t.column ≡ pos 0 → ((j : ℕ) → 1 ≤ j → j ≤ n → j ≡ t.column → ⊥) → sum_to (λ j. entry j t *ℤ f j) n ≡ t.value *ℤ f t.column
product_off f n t none off =
    sum_to_zero (λ j. entry j t *ℤ f j) n (λ j low high. product_elsewhere f j t (off j low high))
    ∙ sym (ap (λ x. t.value *ℤ x) none ∙ int_mul_zero t.value)

-- a term's value times what a function has at its column, as a sum over all columns; off the columns the function is 0
pub share_of_term : (f : ℕ → ℤ) (n : ℕ) (t : Term ℤ) → f 0 ≡ pos 0 → ((j : ℕ) → n < j → f j ≡ pos 0) → sum_to (λ j. entry j t *ℤ f j) n ≡ t.value *ℤ f t.column
share_of_term f n t front past =
    ⊎_elim
    (λ (l : n < t.column). product_off f n t (past t.column l) (λ j low high e. omega arith))
    (λ (l : t.column ≤ n).
    ⊎_elim
    (λ (m : 0 < t.column).
    sum_to_only (λ j. entry j t *ℤ f j) t.column n m l (λ j low high d. product_elsewhere f j t d)
    ∙ ap (λ x. x *ℤ f t.column) (entry_here t))
    (λ (m : t.column ≤ 0).
    let e : t.column ≡ 0 = omega arith in
    product_off f n t (ap f e ∙ front) (λ j low high d. omega arith))
    (cases_lt 0 t.column))
    (cases_lt n t.column)

load_elsewhere : (f : ℕ → ℕ) (j : ℕ) (t : Term ℤ) → (j ≡ t.column → ⊥) → unsigned_abs (entry j t) * f j ≡ 0
load_elsewhere f j t h = ap (λ x. unsigned_abs x * f j) (entry_elsewhere j t h) ∙ omega arith

load_off : (f : ℕ → ℕ) (n : ℕ) (t : Term ℤ) → f t.column ≡ 0 → ((j : ℕ) → 1 ≤ j → j ≤ n → j ≡ t.column → ⊥) → total_to (λ j. unsigned_abs (entry j t) * f j) n ≡ unsigned_abs t.value * f t.column
load_off f n t none off =
    total_to_zero (λ j. unsigned_abs (entry j t) * f j) n (λ j low high. load_elsewhere f j t (off j low high))
    ∙ sym (ap (λ x. unsigned_abs t.value * x) none ∙ omega arith)

-- the same of magnitudes
pub load_of_term : (f : ℕ → ℕ) (n : ℕ) (t : Term ℤ) → f 0 ≡ 0 → ((j : ℕ) → n < j → f j ≡ 0) → total_to (λ j. unsigned_abs (entry j t) * f j) n ≡ unsigned_abs t.value * f t.column
load_of_term f n t front past =
    ⊎_elim
    (λ (l : n < t.column). load_off f n t (past t.column l) (λ j low high e. omega arith))
    (λ (l : t.column ≤ n).
    ⊎_elim
    (λ (m : 0 < t.column).
    total_to_only (λ j. unsigned_abs (entry j t) * f j) t.column n m l (λ j low high d. load_elsewhere f j t d)
    ∙ ap (λ x. unsigned_abs x * f t.column) (entry_here t))
    (λ (m : t.column ≤ 0).
    let e : t.column ≡ 0 = omega arith in
    load_off f n t (ap f e ∙ front) (λ j low high d. omega arith))
    (cases_lt 0 t.column))
    (cases_lt n t.column)
