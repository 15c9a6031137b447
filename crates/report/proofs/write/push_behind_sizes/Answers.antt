use Rattle.report.proofs.LinesLemmas.{ok_gives, both_added}
use Rattle.report.proofs.write.push_behind_sizes.Goals as goal

pub returns : goal.returns
returns c = ok_gives c.push_behind_found.result c.push_behind_found.ensures (λ h. both_added _ _ _ _ _ c.in_ok-push_found.ensures h)
