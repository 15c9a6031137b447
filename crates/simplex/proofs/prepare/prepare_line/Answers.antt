use Rattle.std.proofs.Common.{inr, List, [], get_or, ap, sym, ◌∙◌, subst}
use Rattle.term_store.specs.declared.term.Term.{Term}
use Rattle.sparse_rows.specs.Lines.{entry_of, IsLine}
use Rattle.sparse_rows.proofs.Tests.{told_true, told_false}
use Rattle.simplex.proofs.Reducing.{prepared_by, prepared_none, wide_by, leaves_by}
use Rattle.simplex.proofs.prepare.prepare_line.Goals as goal

pub reduce_line-requires-clause-entries : goal.reduce_line-requires-clause-entries
reduce_line-requires-clause-entries g c =
    let e = c.entry-other.ensures c.args.cells.now (subst (λ (ts : List (Term g.row.W.Denot)). IsLine g.W.Whole.meaning 0 c.args.cells.now ts) (sym c.row.ensures) c.requires.other_line)
    ∙ ap (λ (ts : List (Term g.row.W.Denot)). entry_of g.W.Whole.meaning ts c.args.col) c.row.ensures in
    leaves_by g.W.Whole.meaning c.args.row c.args.col c.args.cells.now c.args.k (get_or c.args.lines.now.rows c.args.row []) (get_or c.args.lines.now.rows c.args.k [])
    _ _ c.requires.pivot e c.if-k-row.false (told_false c.is_zero.result c.if-is_zero.false c.is_zero.ensures) c.requires.entries

pub returns-then-is_zero-clause-prepared : goal.returns-then-is_zero-clause-prepared
returns-then-is_zero-clause-prepared g c =
    let e = c.entry-other.ensures c.args.cells.now (subst (λ (ts : List (Term g.row.W.Denot)). IsLine g.W.Whole.meaning 0 c.args.cells.now ts) (sym c.row.ensures) c.requires.other_line)
    ∙ ap (λ (ts : List (Term g.row.W.Denot)). entry_of g.W.Whole.meaning ts c.args.col) c.row.ensures in
    prepared_none g.W.Whole.meaning _ _ _ _ _ _ _ (inr (sym e ∙ told_true c.is_zero.result c.if-is_zero.true c.is_zero.ensures))

pub returns-in-Ok-clause-prepared : goal.returns-in-Ok-clause-prepared
returns-in-Ok-clause-prepared g c =
    let e = c.entry-other.ensures c.args.cells.now (subst (λ (ts : List (Term g.row.W.Denot)). IsLine g.W.Whole.meaning 0 c.args.cells.now ts) (sym c.row.ensures) c.requires.other_line)
    ∙ ap (λ (ts : List (Term g.row.W.Denot)). entry_of g.W.Whole.meaning ts c.args.col) c.row.ensures in
    prepared_by g.W.Whole.meaning c.args.row c.args.col c.args.cells.now c.args.k (get_or c.args.lines.now.rows c.args.row []) (get_or c.args.lines.now.rows c.args.k []) _
    _ _ c.requires.pivot e c.if-k-row.false (told_false c.is_zero.result c.if-is_zero.false c.is_zero.ensures) c.in-Ok.ensures.line c.in-Ok.ensures.divided

pub returns-in-Err-clause-wide : goal.returns-in-Err-clause-wide
returns-in-Err-clause-wide g c =
    let e = c.entry-other.ensures c.args.cells.now (subst (λ (ts : List (Term g.row.W.Denot)). IsLine g.W.Whole.meaning 0 c.args.cells.now ts) (sym c.row.ensures) c.requires.other_line)
    ∙ ap (λ (ts : List (Term g.row.W.Denot)). entry_of g.W.Whole.meaning ts c.args.col) c.row.ensures in
    wide_by g.W.Whole.meaning g.W.Whole.greatest c.args.row c.args.col c.args.cells.now c.args.k (get_or c.args.lines.now.rows c.args.row []) (get_or c.args.lines.now.rows c.args.k [])
    _ _ c.in-Err.column c.requires.pivot e c.if-k-row.false (told_false c.is_zero.result c.if-is_zero.false c.is_zero.ensures) c.in-Err.ensures.column c.in-Err.ensures.wide
