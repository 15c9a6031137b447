use Rattle.report.proofs.LinesLemmas.{ok_gives, both_added}
use Rattle.report.proofs.write.push_behind_found.Goals as goal

pub returns : goal.returns
returns c = ok_gives c.push_found_tables.result c.push_found_tables.ensures (λ h. both_added _ _ _ _ _ c.in_ok-push_leaves.ensures h)
