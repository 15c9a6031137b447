use Rattle.std.proofs.Common.{refl, lit≤, replicate}
use Rattle.cert_text.specs.NodeText.{most_levels}
use Rattle.cert_text.proofs.LevelLemmas.{start_low}
use Rattle.cert_text.proofs.nodes.NodeReader.over.Goals as goal

pub invariant_of-result : goal.invariant_of-result
invariant_of-result c = (lit≤ tt, start_low 433 (replicate 434 433) refl)

pub returns : goal.returns
unfolding most_levels
returns c = refl
