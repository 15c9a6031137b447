use Rattle.std.specs.Prelude.{◌*ℤ◌, FitsSigned}
use Rattle.std.specs.Int.{w128}
use Rattle.std.proofs.lemmas.Int.{to_z-of_z}
use Rattle.numbers.proofs.WholeLemmas.{word_product_below, word_product_fits}
use Rattle.numbers.proofs.products.word_product.Goals as goal

pub returns-clause-value : goal.returns-clause-value
returns-clause-value c =
    let a : FitsSigned w128 c.args.a = c.ranges.a in
    let b : FitsSigned w128 c.args.b = c.ranges.b in
    let fits : FitsSigned w128 (c.args.a *ℤ c.args.b) = word_product_fits c.args.a c.args.b c.requires.left c.requires.right in
    simp to_z-of_z

pub returns-clause-in_range : goal.returns-clause-in_range
returns-clause-in_range c =
    let a : FitsSigned w128 c.args.a = c.ranges.a in
    let b : FitsSigned w128 c.args.b = c.ranges.b in
    let fits : FitsSigned w128 (c.args.a *ℤ c.args.b) = word_product_fits c.args.a c.args.b c.requires.left c.requires.right in
    simp to_z-of_z (word_product_below c.args.a c.args.b c.requires.left c.requires.right)
