-- What a loop over a row's terms or over a program's columns keeps.
use Rattle.std.proofs.Common.{◌≡◌, ℕ, ◌+◌, ◌<◌, List, length, get_or, drop, arith, ap, ◌∙◌, subst}
use Rattle.std.specs.Prelude.{ℤ, ◌+ℤ◌, ◌*ℤ◌, ◌≤ℤ◌}
use Rattle.std.proofs.lemmas.Int.{ints}
use Rattle.std.proofs.lemmas.List.{drop_more}
use Rattle.term_store.specs.declared.term.Term.{Term}
use Rattle.programs.specs.Programs.{Program, bounds_at}
use Rattle.programs.specs.Points.{IsInBoundsAt, numerator_at, value_at}

-- the terms' values so far and those that are left are all of them, one term on
pub value_more : (point : List ℤ) (ts : List (Term ℤ)) (k : ℕ) (other : Term ℤ) (so_far share sum : ℤ) → k < length ts → so_far +ℤ value_at point (drop k ts) ≡ value_at point ts → share ≡ (get_or ts k other).value *ℤ numerator_at point (get_or ts k other).column → sum ≡ so_far +ℤ share → sum +ℤ value_at point (drop (k + 1) ts) ≡ value_at point ts
value_more point ts k other so_far share sum l h s e =
    let split = ap (λ us. value_at point us) (drop_more ts k other l) in
    omega (arith, ints)

-- a numerator between den times the bounds
pub in_bounds_at : (program : Program) (den : ℤ) (point : List ℤ) (j : ℕ) (range : ℤ × ℤ) (least at greatest : ℤ) → range ≡ bounds_at program j → least ≡ range.0 *ℤ den → greatest ≡ range.1 *ℤ den → at ≡ numerator_at point j → (least ≤ℤ at) × (at ≤ℤ greatest) → IsInBoundsAt program den point j
in_bounds_at program den point j range least at greatest r l g a both =
    let low : least ≡ (bounds_at program j).0 *ℤ den = l ∙ ap (λ (p : ℤ × ℤ). p.0 *ℤ den) r in
    let high : greatest ≡ (bounds_at program j).1 *ℤ den = g ∙ ap (λ (p : ℤ × ℤ). p.1 *ℤ den) r in
    record {
      at_least = subst (λ (x : ℤ). x ≤ℤ numerator_at point j) low (subst (λ (y : ℤ). least ≤ℤ y) a both.0);
      at_most = subst (λ (x : ℤ). numerator_at point j ≤ℤ x) high (subst (λ (y : ℤ). y ≤ℤ greatest) a both.1);
    }
