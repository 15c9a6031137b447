use Rattle.report.specs.inside.Tables.{table_lines}
use Rattle.report.proofs.LinesLemmas.{ok_gives, both_added}
use Rattle.report.proofs.tables.Table.push.Goals as goal

pub returns : goal.returns
unfolding table_lines
returns c = ok_gives c.push_records.result c.push_records.ensures (λ h. both_added _ _ _ _ _ (rw (c.name.ensures, c.header.ensures) at c.in_ok-push_heading.ensures) h)
