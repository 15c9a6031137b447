use Rattle.std.specs.Prelude.{FitsSigned}
use Rattle.std.specs.Int.{w128}
use Rattle.std.proofs.lemmas.Int.{to_z-of_z}
use Rattle.numbers.proofs.WholeLemmas.{word_product_fits, wide_product}
use Rattle.numbers.proofs.w64.W64Whole.times.Goals as goal

pub overflow_mul-wide : goal.overflow_mul-wide
overflow_mul-wide c =
    let left : FitsSigned w128 c.wide.result = record { sfits = c.wide.type_inv } in
    let right : FitsSigned w128 c.wide-2.result = record { sfits = c.wide-2.type_inv } in
    simp to_z-of_z (rw (c.wide.ensures, c.wide-2.ensures) (word_product_fits c.args.self.value c.args.other.value c.args.self.in_range c.args.other.in_range))

pub returns-clause-some : goal.returns-clause-some
returns-clause-some c =
    rw (wide_product _ _ _ _ c.wide.ensures c.wide-2.ensures c.args.self.in_range c.args.other.in_range) at c.of_wide.ensures.some

pub returns-clause-value : goal.returns-clause-value
returns-clause-value c =
    rw (wide_product _ _ _ _ c.wide.ensures c.wide-2.ensures c.args.self.in_range c.args.other.in_range) at c.of_wide.ensures.value
