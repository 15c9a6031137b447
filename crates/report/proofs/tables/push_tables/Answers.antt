use Rattle.report.specs.inside.Tables.{table_lines}
use Rattle.report.specs.declared.tables.Table.TheVariants.{Profile}
use Rattle.report.proofs.LinesLemmas.{nothing_added}
use Rattle.report.proofs.TablesLemmas.{one_more_table}
use Rattle.report.proofs.tables.push_tables.Goals as goal

pub loop-table-init : goal.loop-table-init
loop-table-init c = nothing_added _

pub loop-table-preserved : goal.loop-table-preserved
loop-table-preserved c =
    one_more_table (table_lines c.args.road.now c.args.plan.now) c.args.tables.now c.loop-table.table-index Profile _ _ _ c.loop-table-test.true c.loop-table.invariant c.in_ok-push.ensures
