use Rattle.wide_products.proofs.SignsLemmas.{signed_greatest}
use Rattle.wide_products.proofs.wide.Wide.gcd.Goals as goal

pub returns : goal.returns
returns c = signed_greatest c.args.self.negative c.args.other.negative _ _ _ c.gcd.ensures
