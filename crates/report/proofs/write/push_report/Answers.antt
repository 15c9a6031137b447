use Rattle.report.specs.Reports.{report_lines}
use Rattle.report.proofs.LinesLemmas.{ok_gives, both_added}
use Rattle.report.proofs.write.push_report.Goals as goal

pub returns : goal.returns
unfolding report_lines
returns c = ok_gives c.push_behind_sizes.result c.push_behind_sizes.ensures (λ h. both_added _ _ _ _ _ c.in_ok-push_sizes.ensures h)
