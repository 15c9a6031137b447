use Rattle.std.proofs.Common.{ℕ, inl, inr, List, [], get_or, ap, sym, ◌∙◌, subst, refl}
use Rattle.std.specs.Prelude.{ℤ, vec_capacity}
use Rattle.term_store.specs.declared.term.Term.{Term}
use Rattle.sparse_rows.specs.Lines.{entry_of, IsLine}
use Rattle.sparse_rows.proofs.LinesLemmas.{line_longer}
use Rattle.simplex.proofs.Reducing.{same_cells, wide_same, wide_cell, wide_quotient, divisor_positive, reduced_divided, wide_within, entry_within}
use Rattle.simplex.proofs.Outcomes.{ok_weaker, err_weaker}
use Rattle.simplex.proofs.cells.reduce_in.Goals as goal

pub returns-in-Err-clause-rows : goal.returns-in-Err-clause-rows
returns-in-Err-clause-rows g c = inl refl

pub returns-in-Err-clause-wide : goal.returns-in-Err-clause-wide
returns-in-Err-clause-wide g c =
    let E : List (Term g.row.W.Denot) → ℤ = λ ts. entry_of g.W.Whole.meaning ts c.in-Err.column in
    wide_cell _ _ _ _ (entry_of g.W.Whole.meaning (get_or c.args.lines.now.rows c.args.row [])) (entry_of g.W.Whole.meaning (get_or c.args.lines.now.rows c.args.k [])) c.factors-keep.ensures
    g.W.Whole.greatest g.T.Whole.greatest c.in-Err.column c.requires.wider
    (wide_same _ _ _ _ _ _ _ _ _ c.widened.ensures c.widened-2.ensures (ap E c.row-2.ensures) (ap E c.row.ensures) c.in-Err.ensures.err)

pub returns-in-Err-clause-column : goal.returns-in-Err-clause-column
returns-in-Err-clause-column g c =
    wide_within g.W.Whole.meaning g.W.Whole.greatest (g.W.Whole.meaning c.args.pivot) (g.W.Whole.meaning c.args.other)
    (get_or c.args.lines.now.rows c.args.row []) (get_or c.args.lines.now.rows c.args.k []) (vec_capacity c.args.cells.now) c.in-Err.column
    c.requires.row_line c.requires.other_line (returns-in-Err-clause-wide g c)

pub write_line-requires-clause-positive : goal.write_line-requires-clause-positive
write_line-requires-clause-positive g c =
    let P : List (Term g.row.T.Denot) → Type 0 = λ ts. IsLine g.T.Whole.meaning 0 (vec_capacity c.args.cells.now) ts in
    let E : ℕ → List (Term g.row.W.Denot) → ℤ = λ j ts. entry_of g.W.Whole.meaning ts j in
    let F : ℕ → List (Term g.row.T.Denot) → ℤ = λ j ts. entry_of g.T.Whole.meaning ts j in
    let line = subst P (sym c.as_slice-terms.ensures.value) c.in-Ok.ensures.ok.line in
    divisor_positive (g.W.Whole.meaning c.args.pivot) (g.W.Whole.meaning c.args.other) _ _ (entry_of g.W.Whole.meaning (get_or c.args.lines.now.rows c.args.row [])) (entry_of g.W.Whole.meaning (get_or c.args.lines.now.rows c.args.k [])) c.factors-keep.ensures
    (vec_capacity c.args.cells.now) (entry_of g.T.Whole.meaning c.as_slice-terms.result.now)
    (λ j l. ap (F j) c.as_slice-terms.ensures.value ∙ (c.in-Ok.ensures.ok.same j l
    ∙ same_cells _ _ _ _ _ _ _ _ c.widened.ensures c.widened-2.ensures (ap (E j) c.row-2.ensures) (ap (E j) c.row.ensures)))
    _ (c.common_divisor.ensures _ line) c.requires.entries.0 c.requires.entries.1 c.requires.entries.2

pub write_line-requires-clause-divides : goal.write_line-requires-clause-divides
write_line-requires-clause-divides g c = λ end line j l. (c.common_divisor.ensures end line).divides j l

pub write_line-requires-clause-line : goal.write_line-requires-clause-line
write_line-requires-clause-line g c =
    let P : List (Term g.row.T.Denot) → Type 0 = λ ts. IsLine g.T.Whole.meaning 0 (vec_capacity c.args.cells.now) ts in
    let line = subst P (sym c.as_slice-terms.ensures.value) c.in-Ok.ensures.ok.line in
    line_longer g.T.Whole.meaning 0 (vec_capacity c.args.cells.now) _ c.as_slice-terms.result.now c.requires.width line

pub returns-clause-rows : goal.returns-clause-rows
returns-clause-rows g c = inr c.write_line.ensures.rows

pub returns-clause-line : goal.returns-clause-line
returns-clause-line g c =
    let P : List (Term g.row.T.Denot) → Type 0 = λ ts. IsLine g.T.Whole.meaning 0 (vec_capacity c.args.cells.now) ts in
    let line = subst P (sym c.as_slice-terms.ensures.value) c.in-Ok.ensures.ok.line in
    ok_weaker _ _ c.write_line.result (λ x h. h (vec_capacity c.args.cells.now) line) c.write_line.ensures.line

pub returns-clause-divided : goal.returns-clause-divided
returns-clause-divided g c =
    let P : List (Term g.row.T.Denot) → Type 0 = λ ts. IsLine g.T.Whole.meaning 0 (vec_capacity c.args.cells.now) ts in
    let E : ℕ → List (Term g.row.W.Denot) → ℤ = λ j ts. entry_of g.W.Whole.meaning ts j in
    let F : ℕ → List (Term g.row.T.Denot) → ℤ = λ j ts. entry_of g.T.Whole.meaning ts j in
    let line = subst P (sym c.as_slice-terms.ensures.value) c.in-Ok.ensures.ok.line in
    ok_weaker _ _ c.write_line.result
    (λ x h last e. reduced_divided (g.W.Whole.meaning c.args.pivot) (g.W.Whole.meaning c.args.other) _ _ (entry_of g.W.Whole.meaning (get_or c.args.lines.now.rows c.args.row [])) (entry_of g.W.Whole.meaning (get_or c.args.lines.now.rows c.args.k [])) c.factors-keep.ensures
    (vec_capacity c.args.cells.now) (entry_of g.T.Whole.meaning c.as_slice-terms.result.now)
    (λ j l. ap (F j) c.as_slice-terms.ensures.value ∙ (c.in-Ok.ensures.ok.same j l
    ∙ same_cells _ _ _ _ _ _ _ _ c.widened.ensures c.widened-2.ensures (ap (E j) c.row-2.ensures) (ap (E j) c.row.ensures)))
    _ (c.common_divisor.ensures _ line) last _ e (
    divisor_positive (g.W.Whole.meaning c.args.pivot) (g.W.Whole.meaning c.args.other) _ _ (entry_of g.W.Whole.meaning (get_or c.args.lines.now.rows c.args.row [])) (entry_of g.W.Whole.meaning (get_or c.args.lines.now.rows c.args.k [])) c.factors-keep.ensures
    (vec_capacity c.args.cells.now) (entry_of g.T.Whole.meaning c.as_slice-terms.result.now)
    (λ j l. ap (F j) c.as_slice-terms.ensures.value ∙ (c.in-Ok.ensures.ok.same j l
    ∙ same_cells _ _ _ _ _ _ _ _ c.widened.ensures c.widened-2.ensures (ap (E j) c.row-2.ensures) (ap (E j) c.row.ensures)))
    _ (c.common_divisor.ensures _ line) c.requires.entries.0 c.requires.entries.1 c.requires.entries.2) h)
    c.write_line.ensures.divided

pub returns-clause-wide : goal.returns-clause-wide
returns-clause-wide g c =
    let P : List (Term g.row.T.Denot) → Type 0 = λ ts. IsLine g.T.Whole.meaning 0 (vec_capacity c.args.cells.now) ts in
    let E : ℕ → List (Term g.row.W.Denot) → ℤ = λ j ts. entry_of g.W.Whole.meaning ts j in
    let F : ℕ → List (Term g.row.T.Denot) → ℤ = λ j ts. entry_of g.T.Whole.meaning ts j in
    let line = subst P (sym c.as_slice-terms.ensures.value) c.in-Ok.ensures.ok.line in
    err_weaker _ _ c.write_line.result
    (λ j h. let l = entry_within g.T.Whole.meaning c.as_slice-terms.result.now (vec_capacity c.args.cells.now) j g.W.Whole.greatest line h in
    wide_quotient (g.W.Whole.meaning c.args.pivot) (g.W.Whole.meaning c.args.other) _ _ (entry_of g.W.Whole.meaning (get_or c.args.lines.now.rows c.args.row [])) (entry_of g.W.Whole.meaning (get_or c.args.lines.now.rows c.args.k [])) c.factors-keep.ensures
    g.W.Whole.greatest j _
    (ap (F j) c.as_slice-terms.ensures.value ∙ (c.in-Ok.ensures.ok.same j l
    ∙ same_cells _ _ _ _ _ _ _ _ c.widened.ensures c.widened-2.ensures (ap (E j) c.row-2.ensures) (ap (E j) c.row.ensures)))
    h)
    c.write_line.ensures.wide

pub returns-clause-column : goal.returns-clause-column
returns-clause-column g c =
    let P : List (Term g.row.T.Denot) → Type 0 = λ ts. IsLine g.T.Whole.meaning 0 (vec_capacity c.args.cells.now) ts in
    let line = subst P (sym c.as_slice-terms.ensures.value) c.in-Ok.ensures.ok.line in
    err_weaker _ _ c.write_line.result
    (λ j h. entry_within g.T.Whole.meaning c.as_slice-terms.result.now (vec_capacity c.args.cells.now) j g.W.Whole.greatest line h)
    c.write_line.ensures.wide
