use Rattle.std.proofs.lemmas.Iterator.Consumers.{nth_from_yields_List, YieldsList-from_first}
use Rattle.text_parts.specs.Words.{words_of}
use Rattle.text_parts.proofs.line.Line.word.Goals as goal

pub returns : goal.returns
returns c = nth_from_yields_List _ _ _ c.nth.ensures.ran (YieldsList-from_first (λ w. w.now) (λ words. words) (words_of c.args.self.now.bytes) c.words.ensures.parts)
