use Rattle.std.proofs.Common.{ℕ, ◌+◌, ◌<◌, List, [], get_or, length, ap, sym, ◌∙◌, subst}
use Rattle.term_store.specs.declared.term.Term.{Term}
use Rattle.sparse_rows.specs.Lines.{IsLine, entry_of}
use Rattle.std.proofs.Math.ListN.{length-set}
use Rattle.simplex.proofs.Preparing.{prepared_more, leaves_same, wide_row_same}
use Rattle.simplex.proofs.prepare.prepare.Goals as goal
use Rattle.simplex.specs.inside.Rows.{IsPrepared}

pub prepare_line-requires-clause-row_line : goal.prepare_line-requires-clause-row_line
prepare_line-requires-clause-row_line g c =
    let same = c.loop-k.invariant.0.same c.args.row c.requires.row in
    subst (λ (n : ℕ). IsLine g.W.Whole.meaning 0 n (get_or c.loop-k.lines.rows c.args.row [])) (sym c.loop-k.invariant.1.1.1)
    (subst (λ (ts : List (Term g.row.W.Denot)). IsLine g.W.Whole.meaning 0 c.args.cells.now ts) (sym same) (c.requires.rising c.args.row c.requires.row))

pub prepare_line-requires-clause-other_line : goal.prepare_line-requires-clause-other_line
prepare_line-requires-clause-other_line g c =
    let same = c.loop-k.invariant.0.same c.loop-k.k c.loop-k-test.true in
    subst (λ (n : ℕ). IsLine g.W.Whole.meaning 0 n (get_or c.loop-k.lines.rows c.loop-k.k [])) (sym c.loop-k.invariant.1.1.1)
    (subst (λ (ts : List (Term g.row.W.Denot)). IsLine g.W.Whole.meaning 0 c.args.cells.now ts) (sym same) (c.requires.rising c.loop-k.k c.loop-k-test.true))

pub prepare_line-requires-clause-pivot : goal.prepare_line-requires-clause-pivot
prepare_line-requires-clause-pivot g c =
    let same = c.loop-k.invariant.0.same c.args.row c.requires.row in
    c.requires.pivot ∙ ap (λ (ts : List (Term g.row.W.Denot)). entry_of g.W.Whole.meaning ts c.args.col) (sym same)

pub prepare_line-requires-clause-entries : goal.prepare_line-requires-clause-entries
prepare_line-requires-clause-entries g c =
    leaves_same g.W.Whole.meaning c.args.row c.args.col c.loop-k.k c.args.cells.now c.loop-k.cells _ _ _ _ c.loop-k.invariant.1.1.1
    (c.loop-k.invariant.0.same c.args.row c.requires.row) (c.loop-k.invariant.0.same c.loop-k.k c.loop-k-test.true) (c.requires.entries c.loop-k.k c.loop-k-test.true)

pub returns-in-Err-clause-wide : goal.returns-in-Err-clause-wide
returns-in-Err-clause-wide g c = (
  c.loop-k-test.true,
  wide_row_same g.W.Whole.meaning c.args.row c.args.col c.loop-k.k c.args.cells.now c.loop-k.cells _ _ _ _ c.loop-k.invariant.1.1.1
      (c.loop-k.invariant.0.same c.args.row c.requires.row) (c.loop-k.invariant.0.same c.loop-k.k c.loop-k-test.true) g.W.Whole.greatest c.in-Err.column c.in-Err.ensures.wide,
)

pub loop-k-preserved : goal.loop-k-preserved
loop-k-preserved g c =
    let within : c.loop-k.k < length c.args.marks.now = c.loop-k-test.true in
    let p = subst (λ (n : ℕ). IsPrepared g.W.Whole.meaning c.args.row c.args.col n c.loop-k.k (get_or c.loop-k.lines.rows c.args.row []) (get_or c.loop-k.lines.rows c.loop-k.k []) c.in-Ok.marked (get_or c.prepare_line.new.lines.rows (length c.args.marks.now + c.loop-k.k) []))
    c.loop-k.invariant.1.1.1 c.in-Ok.ensures.prepared in (
      prepared_more g.W.Whole.meaning c.args.row c.args.col c.args.cells.now (length c.args.marks.now) c.loop-k.k c.args.lines.now.rows c.loop-k.lines.rows c.prepare_line.new.lines.rows c.loop-k.marks
          c.loop-k.invariant.0 within c.loop-k.invariant.1.0 c.requires.row c.prepare_line.ensures.rows c.in-Ok.marked p,
      (
        length-set c.loop-k.marks c.loop-k.k c.in-Ok.marked ∙ c.loop-k.invariant.1.0,
        (c.prepare_line.ensures.width ∙ c.loop-k.invariant.1.1.0, c.prepare_line.ensures.room ∙ c.loop-k.invariant.1.1.1),
      ),
    )
