use Rattle.std.proofs.Common.{◌≡◌, ℕ, ◌+◌, ◌<◌, List, [], get_or, length, Bool, arith, ap, sym, ◌∙◌, subst}
use Rattle.std.proofs.lemmas.List.{get_or-take}
use Rattle.term_store.specs.declared.term.Term.{Term}
use Rattle.programs.specs.Programs.{row_count}
use Rattle.tableau.specs.Tableaux.{IsRow}
use Rattle.tableau.specs.Exchanges.{IsOutside}
use Rattle.tableau.specs.Ends.{IsEmptyRow}
use Rattle.sparse_rows.specs.Lines.{IsLine}
use Rattle.simplex.specs.States.{State, tableau_of}
use Rattle.simplex.specs.inside.Choices.{MayEnter, IsChosen}
use Rattle.simplex.proofs.Keeping.{state}
use Rattle.simplex.proofs.Breaks.{carry, some_weaker, none_weaker}
use Rattle.simplex.proofs.Selections.{line_first, eligible_of_enters, empty_of_none}
use Rattle.simplex.proofs.table.Tableau.ratio_test.Goals as goal

pub entering_column-requires-clause-line : goal.entering_column-requires-clause-line
entering_column-requires-clause-line g c =
    let i_row : IsRow (tableau_of g.W.Whole.meaning (state g.W.Whole.meaning c.self.inside.milp.now c.self.inside.low.items c.self.inside.high.items c.self.inside.has_high.items c.self.inside.lines.rows c.self.inside.basis.items c.self.inside.at_high.items)) c.args.row = subst (λ (s : State g.row.W.Denot). IsRow (tableau_of g.W.Whole.meaning s) c.args.row) (sym c.self.view_is) c.requires.row in
    let in_front : c.args.row < row_count c.self.inside.milp.now + 1 = (let l = i_row.1 in omega arith) in
    let front = get_or-take (row_count c.self.inside.milp.now + 1) c.self.inside.lines.rows c.args.row [] in_front in
    let basic = ap (λ (bs : List ℕ). get_or bs c.args.row 0) c.as_slice-basis.ensures.value in
    let line : c.row.result.now ≡ get_or (state g.W.Whole.meaning c.self.inside.milp.now c.self.inside.low.items c.self.inside.high.items c.self.inside.has_high.items c.self.inside.lines.rows c.self.inside.basis.items c.self.inside.at_high.items).lines c.args.row [] = c.row.ensures ∙ sym front in
    subst (λ (n : ℕ). IsLine g.W.Whole.meaning 1 n c.row.result.now) (sym (ap length c.deref.ensures.value))
    (subst (λ (ts : List (Term g.row.W.Denot)). IsLine g.W.Whole.meaning 1 (length c.self.inside.low.items) ts) (sym line) (line_first g.W.Whole.meaning (state g.W.Whole.meaning c.self.inside.milp.now c.self.inside.low.items c.self.inside.high.items c.self.inside.has_high.items c.self.inside.lines.rows c.self.inside.basis.items c.self.inside.at_high.items) c.self.invariant.reached c.args.row i_row))

pub entering_column-requires-clause-costs : goal.entering_column-requires-clause-costs
entering_column-requires-clause-costs g c =
    let rows : List (List (Term g.row.W.Denot)) = c.self.inside.lines.rows in
    let first : 0 < row_count c.self.inside.milp.now + 1 = omega arith in
    let front = get_or-take (row_count c.self.inside.milp.now + 1) rows 0 [] first in
    subst (λ (n : ℕ). IsLine g.W.Whole.meaning 0 n c.row-2.result.now) (sym (ap length c.deref.ensures.value))
    (subst (λ (ts : List (Term g.row.W.Denot)). IsLine g.W.Whole.meaning 0 (length c.self.inside.low.items) ts) (sym (c.row-2.ensures ∙ sym front)) (c.self.invariant.reached.shape.rising 0 (omega arith)))

pub returns-clause-chosen : goal.returns-clause-chosen
returns-clause-chosen g c =
    let i_row : IsRow (tableau_of g.W.Whole.meaning (state g.W.Whole.meaning c.self.inside.milp.now c.self.inside.low.items c.self.inside.high.items c.self.inside.has_high.items c.self.inside.lines.rows c.self.inside.basis.items c.self.inside.at_high.items)) c.args.row = subst (λ (s : State g.row.W.Denot). IsRow (tableau_of g.W.Whole.meaning s) c.args.row) (sym c.self.view_is) c.requires.row in
    let in_front : c.args.row < row_count c.self.inside.milp.now + 1 = (let l = i_row.1 in omega arith) in
    let front = get_or-take (row_count c.self.inside.milp.now + 1) c.self.inside.lines.rows c.args.row [] in_front in
    let basic = ap (λ (bs : List ℕ). get_or bs c.args.row 0) c.as_slice-basis.ensures.value in
    let line : c.row.result.now ≡ get_or (state g.W.Whole.meaning c.self.inside.milp.now c.self.inside.low.items c.self.inside.high.items c.self.inside.has_high.items c.self.inside.lines.rows c.self.inside.basis.items c.self.inside.at_high.items).lines c.args.row [] = c.row.ensures ∙ sym front in
    let first : 0 < row_count c.self.inside.milp.now + 1 = omega arith in
    let costs : c.row-2.result.now ≡ get_or (state g.W.Whole.meaning c.self.inside.milp.now c.self.inside.low.items c.self.inside.high.items c.self.inside.has_high.items c.self.inside.lines.rows c.self.inside.basis.items c.self.inside.at_high.items).lines 0 [] = c.row-2.ensures ∙ sym (get_or-take (row_count c.self.inside.milp.now + 1) c.self.inside.lines.rows 0 [] first) in
    some_weaker _ _ c.entering_column.result
    (λ j h. subst (λ (s : State g.row.W.Denot). IsChosen g.W.Whole.meaning (get_or s.lines c.args.row []) (get_or s.basis c.args.row 0) s.low s.high s.has_high s.at_high (get_or s.lines 0 []) c.args.broken j) c.self.view_is
    (subst (λ (us : List (Term g.row.W.Denot)). IsChosen g.W.Whole.meaning (get_or (state g.W.Whole.meaning c.self.inside.milp.now c.self.inside.low.items c.self.inside.high.items c.self.inside.has_high.items c.self.inside.lines.rows c.self.inside.basis.items c.self.inside.at_high.items).lines c.args.row []) (get_or c.self.inside.basis.items c.args.row 0) c.self.inside.low.items c.self.inside.high.items c.self.inside.has_high.items c.self.inside.at_high.items us c.args.broken j) costs
    (carry (λ (at : ℕ) (ts : List (Term g.row.W.Denot)) (lo hi : List g.row.W.Denot) (hh ah : List Bool). IsChosen g.W.Whole.meaning ts at lo hi hh ah c.row-2.result.now c.args.broken j) basic line c.deref.ensures.value c.deref-2.ensures.value c.deref-3.ensures.value c.deref-4.ensures.value h)))
    c.entering_column.ensures.chosen

pub returns-clause-few : goal.returns-clause-few
returns-clause-few g c =
    let i_row : IsRow (tableau_of g.W.Whole.meaning (state g.W.Whole.meaning c.self.inside.milp.now c.self.inside.low.items c.self.inside.high.items c.self.inside.has_high.items c.self.inside.lines.rows c.self.inside.basis.items c.self.inside.at_high.items)) c.args.row = subst (λ (s : State g.row.W.Denot). IsRow (tableau_of g.W.Whole.meaning s) c.args.row) (sym c.self.view_is) c.requires.row in
    let in_front : c.args.row < row_count c.self.inside.milp.now + 1 = (let l = i_row.1 in omega arith) in
    let front = get_or-take (row_count c.self.inside.milp.now + 1) c.self.inside.lines.rows c.args.row [] in_front in
    let basic = ap (λ (bs : List ℕ). get_or bs c.args.row 0) c.as_slice-basis.ensures.value in
    let line : c.row.result.now ≡ get_or (state g.W.Whole.meaning c.self.inside.milp.now c.self.inside.low.items c.self.inside.high.items c.self.inside.has_high.items c.self.inside.lines.rows c.self.inside.basis.items c.self.inside.at_high.items).lines c.args.row [] = c.row.ensures ∙ sym front in
    some_weaker _ _ c.entering_column.result
    (λ j h. let e = (eligible_of_enters g.W.Whole.meaning (state g.W.Whole.meaning c.self.inside.milp.now c.self.inside.low.items c.self.inside.high.items c.self.inside.has_high.items c.self.inside.lines.rows c.self.inside.basis.items c.self.inside.at_high.items) c.self.invariant.reached c.args.row i_row c.args.broken j (carry (λ (at : ℕ) (ts : List (Term g.row.W.Denot)) (lo hi : List g.row.W.Denot) (hh ah : List Bool). MayEnter g.W.Whole.meaning ts at lo hi hh ah c.args.broken j) basic line c.deref.ensures.value c.deref-2.ensures.value c.deref-3.ensures.value c.deref-4.ensures.value h.enters)) in
    let l = e.column.1 in
    let m = c.self.invariant.reached.shape.low in
    let k = c.self.invariant.reached.shape.few in
    omega arith)
    c.entering_column.ensures.chosen

pub returns-clause-none : goal.returns-clause-none
returns-clause-none g c =
    let i_row : IsRow (tableau_of g.W.Whole.meaning (state g.W.Whole.meaning c.self.inside.milp.now c.self.inside.low.items c.self.inside.high.items c.self.inside.has_high.items c.self.inside.lines.rows c.self.inside.basis.items c.self.inside.at_high.items)) c.args.row = subst (λ (s : State g.row.W.Denot). IsRow (tableau_of g.W.Whole.meaning s) c.args.row) (sym c.self.view_is) c.requires.row in
    let in_front : c.args.row < row_count c.self.inside.milp.now + 1 = (let l = i_row.1 in omega arith) in
    let front = get_or-take (row_count c.self.inside.milp.now + 1) c.self.inside.lines.rows c.args.row [] in_front in
    let basic = ap (λ (bs : List ℕ). get_or bs c.args.row 0) c.as_slice-basis.ensures.value in
    let line : c.row.result.now ≡ get_or (state g.W.Whole.meaning c.self.inside.milp.now c.self.inside.low.items c.self.inside.high.items c.self.inside.has_high.items c.self.inside.lines.rows c.self.inside.basis.items c.self.inside.at_high.items).lines c.args.row [] = c.row.ensures ∙ sym front in
    none_weaker _ _ c.entering_column.result
    (λ h. subst (λ (s : State g.row.W.Denot). IsEmptyRow (tableau_of g.W.Whole.meaning s) c.args.row c.args.broken) c.self.view_is
    (empty_of_none g.W.Whole.meaning (state g.W.Whole.meaning c.self.inside.milp.now c.self.inside.low.items c.self.inside.high.items c.self.inside.has_high.items c.self.inside.lines.rows c.self.inside.basis.items c.self.inside.at_high.items) c.self.invariant.reached c.args.row i_row c.args.broken (subst (λ (s : State g.row.W.Denot). IsOutside (tableau_of g.W.Whole.meaning s) c.args.row c.args.broken) (sym c.self.view_is) c.requires.outside)
    (λ j e. h j (carry (λ (at : ℕ) (ts : List (Term g.row.W.Denot)) (lo hi : List g.row.W.Denot) (hh ah : List Bool). MayEnter g.W.Whole.meaning ts at lo hi hh ah c.args.broken j) (sym basic) (sym line) (sym c.deref.ensures.value) (sym c.deref-2.ensures.value) (sym c.deref-3.ensures.value) (sym c.deref-4.ensures.value) e))))
    c.entering_column.ensures.none
