use Rattle.std.specs.Int.{w128}
use Rattle.numbers.proofs.DivisorsLemmas.{exact_quotient}
use Rattle.numbers.proofs.w128.W128Whole.exact_part.Goals as goal

pub returns : goal.returns
returns c =
    let a = c.args.self in
    let d = c.args.divisor in
    exact_quotient w128 a.value d.value a.in_range d.in_range c.requires.nonzero c.requires.divides
