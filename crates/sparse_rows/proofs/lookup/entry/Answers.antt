use Rattle.std.proofs.Common.{◌≤◌, ◌+◌, arith, sym, ◌∙◌}
use Rattle.sparse_rows.proofs.LinesLemmas.{line_from, rest_none}
use Rattle.sparse_rows.proofs.lookup.entry.Goals as goal

pub returns-then-term-column : goal.returns-then-term-column
returns-then-term-column g c = λ end line.
    let i = c.loop-term.invariant end line in
    let within = c.loop-term-test.true in
    let beyond : c.args.column + 1 ≤ c.term-item.result.column = omega arith in
    let behind = line_from g.W.Whole.meaning c.args.row.now c.loop-term.term-index i.0 end i.1 c.term-item.result within c.term-item.is (c.args.column + 1) beyond in
    c.zero.ensures ∙ sym (rest_none g.W.Whole.meaning c.args.row.now c.loop-term.term-index i.0 end (c.args.column + 1) i.1 behind c.args.column i.2 (omega arith))
