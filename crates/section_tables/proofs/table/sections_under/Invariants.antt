use Rattle.std.proofs.Common.{◌<◌, ℕ, List, []}
use Rattle.section_tables.specs.inside.Progress.{IsUnderHeader}
use Rattle.section_tables.proofs.table.sections_under.Given as goal

-- the sections are those of the records read so far
abbrev pub invariant-loop-record : goal.invariant-loop-record
invariant-loop-record l =
    (text : List ℕ) → IsUnderHeader text [] l.fn.rdr → IsUnderHeader text l.sections.items l.record-iterator.rdr.now × (0 < l.record-iterator.left)
