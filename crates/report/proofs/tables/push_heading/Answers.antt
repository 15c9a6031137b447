use Rattle.report.proofs.LinesLemmas.{ok_gives, next_added}
use Rattle.report.proofs.tables.push_heading.Goals as goal

pub returns : goal.returns
returns c = ok_gives c.push_said-2.result c.push_said-2.ensures (λ h. next_added _ _ _ _ _ c.in_ok-push_said.ensures h)
