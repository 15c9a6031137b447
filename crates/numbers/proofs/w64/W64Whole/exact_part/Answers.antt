use Rattle.std.specs.Int.{w64}
use Rattle.numbers.proofs.DivisorsLemmas.{exact_quotient}
use Rattle.numbers.proofs.w64.W64Whole.exact_part.Goals as goal

pub returns : goal.returns
returns c =
    let a = c.args.self in
    let d = c.args.divisor in
    exact_quotient w64 a.value d.value a.in_range d.in_range c.requires.nonzero c.requires.divides
