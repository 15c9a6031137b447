use Rattle.std.proofs.Common.{◌<◌, length, arith}
use Rattle.sparse_rows.proofs.SumsLemmas.{standing_high, standing_low}
use Rattle.sparse_rows.proofs.summing.standing.Goals as goal

pub returns-then-at_high-column : goal.returns-then-at_high-column
returns-then-at_high-column g c =
    let within : c.args.column < length c.args.high.now = omega arith in
    standing_high _ _ _ _ _ _ within c.index-high-column.is c.if-at_high-column.true

pub returns-else-at_high-column : goal.returns-else-at_high-column
returns-else-at_high-column g c =
    standing_low _ _ _ _ _ _ c.requires.column c.index-low-column.is c.if-at_high-column.false
