use Rattle.std.proofs.Common.{take}
use Rattle.std.specs.Prelude.{flat_map}
use Rattle.report.specs.Lines.{Adds}
use Rattle.report.specs.inside.Tables.{table_lines}
use Rattle.report.proofs.tables.push_tables.Given as goal

abbrev pub invariant-loop-table : goal.invariant-loop-table
invariant-loop-table l = Adds (flat_map (table_lines l.road l.plan) (take l.table-index l.tables)) l.fn.out.items l.out.items
