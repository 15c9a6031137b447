use Rattle.algebra.specs.Lists.{flat_to}
use Rattle.report.specs.Lines.{Adds}
use Rattle.report.specs.inside.Tables.{part_lines}
use Rattle.report.proofs.tables.Table.push_records.Given as goal

abbrev pub invariant-loop-before : goal.invariant-loop-before
invariant-loop-before l = Adds (flat_to (part_lines l.road l.plan l.self) l.before) l.fn.out.items l.out.items
