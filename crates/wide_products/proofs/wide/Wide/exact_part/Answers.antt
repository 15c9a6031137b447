use Rattle.wide_products.proofs.SignsLemmas.{exact_quotient}
use Rattle.wide_products.proofs.wide.Wide.exact_part.Goals as goal

pub returns : goal.returns
returns c =
    let whole = c.quotient.ensures in
    exact_quotient c.args.self.negative c.args.divisor.negative _ _ _ whole.whole.0 c.requires.divides whole.whole.1.0 whole.whole.1.1
