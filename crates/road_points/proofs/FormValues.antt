-- The value of a row's terms at a point is the sum over its form's entries of coefficient times what the point shows at the
-- entry's kind. From here on a form is looked at by what is shown at kinds, and no longer by columns.
use Rattle.std.proofs.Common.{◌≡◌, ℕ, zero, suc, Bool, true, false, cond, Option, Some, None, List, [], ◌∷◌, ◌++◌, arith, ap, sym, ◌∙◌, refl, subst}
use Rattle.std.specs.Prelude.{ℤ, pos, neg_ℤ, ◌+ℤ◌, ◌*ℤ◌}
use Rattle.std.specs.Ordering.{int_eq}
use Rattle.std.proofs.lemmas.Int.{ints}
use Rattle.algebra.specs.Lists.{list_to, flat_to}
use Rattle.algebra.specs.Sums.{sum_to}
use Rattle.algebra.proofs.Products.{int_neg_mul, int_mul_zero}
use Rattle.term_store.specs.declared.term.Term.{Term}
use Rattle.programs.specs.Points.{value_at, numerator_at, Satisfies, MeetsRow}
use Rattle.road_types.specs.Columns.{column_number}
use Rattle.road_types.specs.Forms.{Form, negated}
use Rattle.road_types.specs.RoadPrograms.{term_in, terms_of, row_of}
use Rattle.road_types.specs.declared.road.Road.{Road}
use Rattle.road_types.specs.declared.column.Column.{Column}
use Rattle.road_points.specs.Shown.{shown_at, shown}

-- the sum of coefficient times value, where `f` gives each kind its value
abbrev pub form_value : (Column → ℤ) → List (Column × ℤ) → ℤ
form_value f [] = pos 0
form_value f (entry ∷ entries) = entry.1 *ℤ f entry.0 +ℤ form_value f entries

value_of_term : (point : List ℤ) (o : Option ℕ) (c : ℤ) (rest : List (Term ℤ)) → value_at point (term_in o c ++ rest) ≡ c *ℤ shown_at point o +ℤ value_at point rest
value_of_term point None c rest = omega (arith, ints, int_mul_zero c)
value_of_term point (Some j) c rest = by_test (int_eq c (pos 0)) refl
  where
    by_test : (b : Bool) → int_eq c (pos 0) ≡ b → value_at point (cond b [] (record { column = j; value = c } ∷ []) ++ rest) ≡ c *ℤ numerator_at point j +ℤ value_at point rest
    by_test true e = let z : c ≡ pos 0 = grind (arith, ints) in omega (arith, ints, ap (λ x. x *ℤ numerator_at point j) z)
    by_test false e = refl

pub value_of_terms : (road : Road) (point : List ℤ) (entries : List (Column × ℤ)) → value_at point (terms_of road entries) ≡ form_value (shown road point) entries
value_of_terms road point [] = refl
value_of_terms road point (entry ∷ entries) =
    value_of_term point (column_number road entry.0) entry.1 (terms_of road entries)
    ∙ ap (λ x. entry.1 *ℤ shown road point entry.0 +ℤ x) (value_of_terms road point entries)

-- ---- sums of parts

pub form_value-append : (f : Column → ℤ) (xs ys : List (Column × ℤ)) → form_value f (xs ++ ys) ≡ form_value f xs +ℤ form_value f ys
form_value-append f [] ys = omega (arith, ints)
form_value-append f (x ∷ xs) ys = let rest = form_value-append f xs ys in omega (arith, ints)

pub form_value-negated : (f : Column → ℤ) (xs : List (Column × ℤ)) → form_value f (negated xs) ≡ neg_ℤ (form_value f xs)
form_value-negated f [] = refl
form_value-negated f (x ∷ xs) = let rest = form_value-negated f xs in omega (arith, ints, int_neg_mul x.1 (f x.0))

pub form_value-list_to : (f : Column → ℤ) (g : ℕ → Column × ℤ) (n : ℕ) → form_value f (list_to g n) ≡ sum_to (λ k. (g k).1 *ℤ f (g k).0) n
form_value-list_to f g zero = refl
form_value-list_to f g (suc n) =
    let before = form_value-list_to f g n in
    omega (arith, ints, form_value-append f (list_to g n) (g (suc n) ∷ []))

pub form_value-flat_to : (f : Column → ℤ) (g : ℕ → List (Column × ℤ)) (n : ℕ) → form_value f (flat_to g n) ≡ sum_to (λ k. form_value f (g k)) n
form_value-flat_to f g zero = refl
form_value-flat_to f g (suc n) =
    let before = form_value-flat_to f g n in
    omega (arith, ints, form_value-append f (flat_to g n) (g (suc n)))

-- ---- what a form asks

-- the form's sum equals, or is at least, den times its right side
abbrev pub FormHolds : (Column → ℤ) → ℤ → Form → Type 0
FormHolds f den form = Satisfies form.side (form_value f form.entries) (den *ℤ form.right)

pub form_from_row : (road : Road) (den : ℤ) (point : List ℤ) (form : Form) → MeetsRow den point (row_of road form) → FormHolds (shown road point) den form
form_from_row road den point form h = subst (λ (v : ℤ). Satisfies form.side v (den *ℤ form.right)) (value_of_terms road point form.entries) h

pub row_from_form : (road : Road) (den : ℤ) (point : List ℤ) (form : Form) → FormHolds (shown road point) den form → MeetsRow den point (row_of road form)
row_from_form road den point form h = subst (λ (v : ℤ). Satisfies form.side v (den *ℤ form.right)) (sym (value_of_terms road point form.entries)) h
