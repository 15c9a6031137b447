-- The value of a row at a point, as a sum over the columns.
use Rattle.std.proofs.Common.{◌≡◌, List, [], ◌∷◌, length, arith, sym, refl}
use Rattle.std.specs.Prelude.{ℤ, pos, ◌+ℤ◌, ◌*ℤ◌}
use Rattle.std.proofs.lemmas.Int.{ints}
use Rattle.term_store.specs.declared.term.Term.{Term}
use Rattle.algebra.specs.Sums.{sum_to}
use Rattle.algebra.proofs.NumberedLemmas.{numbered_past}
use Rattle.algebra.proofs.Products.{int_add_mul}
use Rattle.algebra.proofs.SumsLemmas.{sum_to_zero, sum_to_add, sum_to_ext}
use Rattle.programs.specs.Programs.{coefficient, entry}
use Rattle.programs.specs.Points.{numerator_at, value_at}
use Rattle.programs.proofs.EntriesLemmas.{share_of_term}

-- the value of a row's terms is the sum over the columns of coefficient times numerator
pub value_by_columns : (point : List ℤ) (ts : List (Term ℤ)) → value_at point ts ≡ sum_to (λ j. coefficient j ts *ℤ numerator_at point j) (length point)
value_by_columns point [] = sym (sum_to_zero (λ j. pos 0 *ℤ numerator_at point j) (length point) (λ j low high. omega (arith, ints)))
value_by_columns point (t ∷ ts) =
    let first = share_of_term (numerator_at point) (length point) t refl (λ j l. numbered_past (pos 0) point j l) in
    let rest = value_by_columns point ts in
    let both = sum_to_add (λ j. entry j t *ℤ numerator_at point j) (λ j. coefficient j ts *ℤ numerator_at point j) (length point) in
    let apart = sum_to_ext
    (λ j. (entry j t +ℤ coefficient j ts) *ℤ numerator_at point j)
    (λ j. entry j t *ℤ numerator_at point j +ℤ coefficient j ts *ℤ numerator_at point j)
    (length point)
    (λ j low high. int_add_mul (entry j t) (coefficient j ts) (numerator_at point j)) in
    omega (arith, ints)
