use Rattle.std.proofs.Common.{[], get_or, sym, ◌∙◌}
use Rattle.sparse_rows.specs.Lines.{entry_of}
use Rattle.simplex.proofs.Outcomes.{ok_weaker}
use Rattle.simplex.proofs.Retries.{written_again, entries_again, divided_again}
use Rattle.simplex.proofs.cells.Cells.reduce_line.Goals as goal

pub reduce_in-requires-in-Err-clause-entries : goal.reduce_in-requires-in-Err-clause-entries
reduce_in-requires-in-Err-clause-entries g c =
    entries_again g.W.Whole.meaning c.args.spare c.args.lines.now.rows c.reduce_in.new.lines.rows c.reduce_in.ensures.rows
    (g.W.Whole.meaning c.args.pivot) (g.W.Whole.meaning c.args.other) c.args.row c.args.k c.requires.rows.1.0 c.requires.rows.0 _ _ (c.self.invariant ∙ c.self.view_is) c.requires.entries

pub returns-in-Err-clause-rows : goal.returns-in-Err-clause-rows
returns-in-Err-clause-rows g c =
    written_again g.W.Whole.meaning c.args.spare c.args.lines.now.rows c.reduce_in.new.lines.rows c.reduce_in.ensures.rows c.reduce_in-in-Err.new.lines.rows c.reduce_in-in-Err.ensures.rows

pub returns-in-Err-clause-divided : goal.returns-in-Err-clause-divided
returns-in-Err-clause-divided g c =
    ok_weaker _ _ c.reduce_in-in-Err.result
    (λ x h last e. divided_again g.W.Whole.meaning c.args.spare c.args.lines.now.rows c.reduce_in.new.lines.rows c.reduce_in.ensures.rows
    (g.W.Whole.meaning c.args.pivot) (g.W.Whole.meaning c.args.other) c.args.row c.args.k c.requires.rows.1.0 c.requires.rows.0 last (entry_of g.W.Whole.meaning (get_or c.reduce_in-in-Err.new.lines.rows c.args.spare []))
    (h last (e ∙ sym (c.self.invariant ∙ c.self.view_is))))
    c.reduce_in-in-Err.ensures.divided
