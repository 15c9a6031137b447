use Rattle.std.proofs.Common.{◌≡◌, ap, sym, ◌∙◌, subst}
use Rattle.std.specs.Prelude.{ℤ, ◌*ℤ◌, FitsSigned}
use Rattle.std.specs.Int.{w128}
use Rattle.std.proofs.lemmas.Int.{to_z-of_z}
use Rattle.numbers.specs.Divisors.{Divides}
use Rattle.algebra.proofs.Products.{int_mul_comm}
use Rattle.sparse_rows.proofs.dividing.narrow_part.Goals as goal

pub exact_part-requires-clause-nonzero : goal.exact_part-requires-clause-nonzero
exact_part-requires-clause-nonzero c =
    let fits : FitsSigned w128 c.args.divisor = c.ranges.divisor in
    let by = simp to_z-of_z at c.in_ok-by.ensures.value in
    λ none. c.requires.nonzero (sym by ∙ none)

pub exact_part-requires-clause-divides : goal.exact_part-requires-clause-divides
exact_part-requires-clause-divides c =
    let value_fits : FitsSigned w128 c.args.value = c.ranges.value in
    let divisor_fits : FitsSigned w128 c.args.divisor = c.ranges.divisor in
    let narrow = simp to_z-of_z at c.in_ok-narrow.ensures.value in
    let by = simp to_z-of_z at c.in_ok-by.ensures.value in
    subst (λ (d : ℤ). Divides d c.in_ok-narrow.narrow.value) (sym by) (subst (λ (n : ℤ). Divides c.args.divisor n) (sym narrow) c.requires.divides)

-- a quotient is one of the numbers that the divided ones stand for
quotient_of_same : (value divisor n d q w : ℤ) → n ≡ value → d ≡ divisor → q *ℤ d ≡ n → w ≡ q → value ≡ divisor *ℤ w
quotient_of_same value divisor n d q w a b e f =
    sym a ∙ sym e ∙ int_mul_comm q d ∙ ap (λ x. x *ℤ q) b ∙ ap (λ x. divisor *ℤ x) (sym f)

pub returns : goal.returns
returns c =
    let value_fits : FitsSigned w128 c.args.value = c.ranges.value in
    let divisor_fits : FitsSigned w128 c.args.divisor = c.ranges.divisor in
    let wide_fits : FitsSigned w128 c.wide.result = record { sfits = c.wide.type_inv } in
    let narrow = simp to_z-of_z at c.in_ok-narrow.ensures.value in
    let by = simp to_z-of_z at c.in_ok-by.ensures.value in
    simp to_z-of_z (quotient_of_same c.args.value c.args.divisor _ _ _ c.wide.result narrow by c.exact_part.ensures c.wide.ensures)
