use Rattle.text_parts.proofs.SpellingLemmas.{whole_of-spells}
use Rattle.text_parts.proofs.decimal.whole.Goals as goal

pub returns-clause-spelled : goal.returns-clause-spelled
returns-clause-spelled c = whole_of-spells _ _ c.signed.ensures
