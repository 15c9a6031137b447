use Rattle.numbers.proofs.DivisorsLemmas.{gcd_positive, lowest_same, lowest_positive, lowest_gcd}
use Rattle.numbers.proofs.divisors.lowest_terms.Goals as goal

pub nonzero_div-result : goal.nonzero_div-result
nonzero_div-result c = gcd_positive c.args.a c.args.b _ c.magnitude_gcd-divisor.ensures.greatest c.requires

pub nonzero_div-result-2 : goal.nonzero_div-result-2
nonzero_div-result-2 c = gcd_positive c.args.a c.args.b _ c.magnitude_gcd-divisor.ensures.greatest c.requires

pub returns-clause-same : goal.returns-clause-same
returns-clause-same c = lowest_same c.args.a c.args.b _ c.magnitude_gcd-divisor.ensures.greatest c.requires

pub returns-clause-lowest : goal.returns-clause-lowest
returns-clause-lowest c = lowest_gcd c.args.a c.args.b _ c.magnitude_gcd-divisor.ensures.greatest c.requires

pub returns-clause-positive : goal.returns-clause-positive
returns-clause-positive c = lowest_positive c.args.a c.args.b _ c.magnitude_gcd-divisor.ensures.greatest c.requires
