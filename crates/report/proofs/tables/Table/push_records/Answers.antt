use Rattle.report.specs.inside.Tables.{part_lines}
use Rattle.report.proofs.LinesLemmas.{nothing_added, one_more_added}
use Rattle.report.proofs.tables.Table.push_records.Goals as goal

pub loop-before-init : goal.loop-before-init
loop-before-init c = nothing_added _

pub loop-before-preserved : goal.loop-before-preserved
loop-before-preserved c = one_more_added (part_lines c.args.road.now c.args.plan.now c.args.self) _ _ _ _ c.loop-before.invariant c.in_ok-push_part.ensures
