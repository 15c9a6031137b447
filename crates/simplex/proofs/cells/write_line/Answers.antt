use Rattle.std.proofs.Common.{List, [], arith, ap, sym, ◌∙◌, subst, get_or-set_same}
use Rattle.std.specs.Prelude.{◌*ℤ◌}
use Rattle.term_store.specs.declared.term.Term.{Term}
use Rattle.sparse_rows.specs.Lines.{entry_of, IsLine}
use Rattle.sparse_rows.proofs.LinesLemmas.{line_longer}
use Rattle.simplex.proofs.Outcomes.{ok_weaker}
use Rattle.simplex.proofs.cells.write_line.Goals as goal

pub write_divided-requires-clause-line : goal.write_divided-requires-clause-line
write_divided-requires-clause-line g c =
    let room = c.row_mut.ensures.room in
    line_longer g.T.Whole.meaning 0 c.args.lines.now.width _ c.args.terms.now (omega arith) c.requires.line

pub returns-clause-line : goal.returns-clause-line
returns-clause-line g c =
    ok_weaker _ _ c.write_divided.result
    (λ x h end line. subst (λ (ts : List (Term g.row.W.Denot)). IsLine g.W.Whole.meaning 0 end ts)
    (sym (get_or-set_same c.args.lines.now.rows c.args.spare c.write_divided.new.row.terms [] c.requires.row)) (h end line))
    c.write_divided.ensures.line

pub returns-clause-divided : goal.returns-clause-divided
returns-clause-divided g c =
    ok_weaker _ _ c.write_divided.result
    (λ x h j. h j ∙ ap (λ (ts : List (Term g.row.W.Denot)). g.T.Whole.meaning c.args.divisor *ℤ entry_of g.W.Whole.meaning ts j)
    (sym (get_or-set_same c.args.lines.now.rows c.args.spare c.write_divided.new.row.terms [] c.requires.row)))
    c.write_divided.ensures.divided
