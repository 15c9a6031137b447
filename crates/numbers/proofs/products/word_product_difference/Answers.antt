use Rattle.std.specs.Prelude.{FitsSigned}
use Rattle.std.specs.Int.{w128}
use Rattle.std.proofs.lemmas.Int.{to_z-of_z}
use Rattle.numbers.proofs.WholeLemmas.{word_product_below, product_difference_fits, product_difference_is}
use Rattle.numbers.proofs.products.word_product_difference.Goals as goal

pub overflow_sub-result : goal.overflow_sub-result
overflow_sub-result c =
    let left_fits : FitsSigned w128 c.word_product-left.result = record { sfits = c.word_product-left.type_inv } in
    let right_fits : FitsSigned w128 c.word_product-right.result = record { sfits = c.word_product-right.type_inv } in
    simp to_z-of_z (product_difference_fits c.word_product-left.result c.word_product-right.result c.word_product-left.ensures.in_range c.word_product-right.ensures.in_range)

pub returns-clause-value : goal.returns-clause-value
returns-clause-value c =
    let fa : FitsSigned w128 c.args.a = c.ranges.a in
    let fb : FitsSigned w128 c.args.b = c.ranges.b in
    let fc : FitsSigned w128 c.args.c = c.ranges.c in
    let fd : FitsSigned w128 c.args.d = c.ranges.d in
    let left = simp to_z-of_z at c.word_product-left.ensures.value in
    let right = simp to_z-of_z at c.word_product-right.ensures.value in
    product_difference_is _ _ _ _ left right c.word_product-left.ensures.in_range c.word_product-right.ensures.in_range

pub returns-clause-products : goal.returns-clause-products
returns-clause-products c =
    (word_product_below c.args.a c.args.b c.requires.left.0 c.requires.left.1, word_product_below c.args.c c.args.d c.requires.right.0 c.requires.right.1)
