use Rattle.report.proofs.LinesLemmas.{ok_gives}
use Rattle.report.proofs.TablesLemmas.{mass_tables_are}
use Rattle.report.proofs.tables.push_mass_tables.Goals as goal

pub returns : goal.returns
returns c = ok_gives c.push_tables.result c.push_tables.ensures (λ h. rw (mass_tables_are c.args.road.now c.args.plan.now) at h)
