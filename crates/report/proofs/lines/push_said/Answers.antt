use Rattle.report.proofs.LinesLemmas.{ok_gives, said_added}
use Rattle.report.proofs.lines.push_said.Goals as goal

pub returns : goal.returns
returns c = ok_gives c.push_line.result c.push_line.ensures (λ e. said_added _ _ _ e)
