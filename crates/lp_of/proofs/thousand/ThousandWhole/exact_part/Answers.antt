use Rattle.std.proofs.Common.{arith}
use Rattle.std.specs.Int.{w16}
use Rattle.numbers.proofs.DivisorsLemmas.{exact_quotient}
use Rattle.lp_of.proofs.thousand.ThousandWhole.exact_part.Goals as goal

pub returns : goal.returns
returns c =
    let a = c.args.self in
    let d = c.args.divisor in
    let first = a.in_range in
    let second = d.in_range in
    exact_quotient w16 a.value d.value (omega arith) (omega arith) c.requires.nonzero c.requires.divides
