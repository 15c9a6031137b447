use Rattle.wide_products.proofs.SignsLemmas.{signed_difference}
use Rattle.wide_products.proofs.signs.signed_difference.Goals as goal

pub returns-else-is_less : goal.returns-else-is_less
returns-else-is_less c = signed_difference c.args.negative _ _ _ c.difference-else-is_less.ensures
