use Rattle.report.specs.Reports.{bounded_lines}
use Rattle.report.proofs.LinesLemmas.{ok_gives, three_added}
use Rattle.report.proofs.write.push_bounded.Goals as goal

pub returns : goal.returns
unfolding bounded_lines
returns c = ok_gives c.push_said-2.result c.push_said-2.ensures (λ h. three_added _ _ _ _ _ _ _ c.in_ok-push_said.ensures c.in_ok-push_bound.ensures h)
