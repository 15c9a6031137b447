use Rattle.std.proofs.Common.{◌∙◌}
use Rattle.algebra.proofs.Products.{int_mul_comm}
use Rattle.algebra.proofs.Order.{int_eq_of_mul_right}
use Rattle.worked_values.proofs.whole_numbers.divided_back.Goals as goal

pub exact_part-requires-clause-divides : goal.exact_part-requires-clause-divides
exact_part-requires-clause-divides g c =
    let a = g.W.Whole.meaning c.args.factor in
    let b = g.W.Whole.meaning c.args.other in
    (a, c.in_ok-times.ensures.value ∙ int_mul_comm a b)

pub returns : goal.returns
returns g c =
    let a = g.W.Whole.meaning c.args.factor in
    let b = g.W.Whole.meaning c.args.other in
    let q = g.W.Whole.meaning c.exact_part.result in
    int_eq_of_mul_right q a b c.requires (c.exact_part.ensures ∙ c.in_ok-times.ensures.value)
