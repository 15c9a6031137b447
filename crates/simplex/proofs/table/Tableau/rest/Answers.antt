use Rattle.std.proofs.Common.{◌≡◌, ℕ, ◌+◌, ◌-◌, ◌^◌, ◌<◌, List, [], get_or, length, Bool, arith, ap, sym, ◌∙◌, subst, refl, inl}
use Rattle.std.proofs.lemmas.List.{get_or-take}
use Rattle.term_store.specs.declared.term.Term.{Term}
use Rattle.programs.specs.Programs.{row_count}
use Rattle.wide_products.specs.Naturals.{whole_of}
use Rattle.tableau.specs.Tableaux.{IsRow}
use Rattle.tableau.specs.Operations.{IsOutOfRange}
use Rattle.tableau.specs.declared.op.Op.TheVariants.{Value}
use Rattle.sparse_rows.specs.Lines.{IsLine}
use Rattle.simplex.specs.States.{State, tableau_of}
use Rattle.simplex.specs.inside.Choices.{IsWideSum}
use Rattle.algebra.specs.Sums.{sum_to}
use Rattle.tableau.specs.Tableaux.{rest}
use Rattle.sparse_rows.specs.Sums.{share}
use Rattle.simplex.proofs.Keeping.{state}
use Rattle.simplex.proofs.Breaks.{carry, out_weaker}
use Rattle.simplex.proofs.Selections.{line_first, wide_sum, same_rest}
use Rattle.simplex.proofs.table.Tableau.rest.Goals as goal

pub sum_of-requires-clause-line : goal.sum_of-requires-clause-line
sum_of-requires-clause-line g c =
    let i_row : IsRow (tableau_of g.W.Whole.meaning (state g.W.Whole.meaning c.self.inside.milp.now c.self.inside.low.items c.self.inside.high.items c.self.inside.has_high.items c.self.inside.lines.rows c.self.inside.basis.items c.self.inside.at_high.items)) c.args.row = subst (λ (s : State g.row.W.Denot). IsRow (tableau_of g.W.Whole.meaning s) c.args.row) (sym c.self.view_is) c.requires in
    let in_front : c.args.row < row_count c.self.inside.milp.now + 1 = (let l = i_row.1 in omega arith) in
    let front = get_or-take (row_count c.self.inside.milp.now + 1) c.self.inside.lines.rows c.args.row [] in_front in
    let basic = ap (λ (bs : List ℕ). get_or bs c.args.row 0) c.as_slice-basis.ensures.value in
    let line : c.row.result.now ≡ get_or (state g.W.Whole.meaning c.self.inside.milp.now c.self.inside.low.items c.self.inside.high.items c.self.inside.has_high.items c.self.inside.lines.rows c.self.inside.basis.items c.self.inside.at_high.items).lines c.args.row [] = c.row.ensures ∙ sym front in
    subst (λ (n : ℕ). IsLine g.W.Whole.meaning 1 n c.row.result.now) (sym (ap length c.deref.ensures.value))
    (subst (λ (ts : List (Term g.row.W.Denot)). IsLine g.W.Whole.meaning 1 (length c.self.inside.low.items) ts) (sym line) (line_first g.W.Whole.meaning (state g.W.Whole.meaning c.self.inside.milp.now c.self.inside.low.items c.self.inside.high.items c.self.inside.has_high.items c.self.inside.lines.rows c.self.inside.basis.items c.self.inside.at_high.items) c.self.invariant.reached c.args.row i_row))

pub returns-in-Ok-clause-sum : goal.returns-in-Ok-clause-sum
returns-in-Ok-clause-sum g c =
    let i_row : IsRow (tableau_of g.W.Whole.meaning (state g.W.Whole.meaning c.self.inside.milp.now c.self.inside.low.items c.self.inside.high.items c.self.inside.has_high.items c.self.inside.lines.rows c.self.inside.basis.items c.self.inside.at_high.items)) c.args.row = subst (λ (s : State g.row.W.Denot). IsRow (tableau_of g.W.Whole.meaning s) c.args.row) (sym c.self.view_is) c.requires in
    let in_front : c.args.row < row_count c.self.inside.milp.now + 1 = (let l = i_row.1 in omega arith) in
    let front = get_or-take (row_count c.self.inside.milp.now + 1) c.self.inside.lines.rows c.args.row [] in_front in
    let basic = ap (λ (bs : List ℕ). get_or bs c.args.row 0) c.as_slice-basis.ensures.value in
    let line : c.row.result.now ≡ get_or (state g.W.Whole.meaning c.self.inside.milp.now c.self.inside.low.items c.self.inside.high.items c.self.inside.has_high.items c.self.inside.lines.rows c.self.inside.basis.items c.self.inside.at_high.items).lines c.args.row [] = c.row.ensures ∙ sym front in
    let sum = carry (λ (at : ℕ) (ts : List (Term g.row.W.Denot)) (lo hi : List g.row.W.Denot) (hh ah : List Bool). whole_of c.in-Ok.sum.value ≡ sum_to (share g.W.Whole.meaning ts at lo hi ah) (length lo - 1)) basic line c.deref.ensures.value c.deref-2.ensures.value (refl {a = c.self.inside.has_high.items}) c.deref-3.ensures.value c.in-Ok.ensures.sum in
    sum ∙ (same_rest g.W.Whole.meaning (state g.W.Whole.meaning c.self.inside.milp.now c.self.inside.low.items c.self.inside.high.items c.self.inside.has_high.items c.self.inside.lines.rows c.self.inside.basis.items c.self.inside.at_high.items) c.self.invariant.reached c.args.row i_row ∙ ap (λ (s : State g.row.W.Denot). rest (tableau_of g.W.Whole.meaning s) c.args.row) c.self.view_is)

pub returns-in-Err-clause-wide : goal.returns-in-Err-clause-wide
returns-in-Err-clause-wide g c =
    let i_row : IsRow (tableau_of g.W.Whole.meaning (state g.W.Whole.meaning c.self.inside.milp.now c.self.inside.low.items c.self.inside.high.items c.self.inside.has_high.items c.self.inside.lines.rows c.self.inside.basis.items c.self.inside.at_high.items)) c.args.row = subst (λ (s : State g.row.W.Denot). IsRow (tableau_of g.W.Whole.meaning s) c.args.row) (sym c.self.view_is) c.requires in
    let in_front : c.args.row < row_count c.self.inside.milp.now + 1 = (let l = i_row.1 in omega arith) in
    let front = get_or-take (row_count c.self.inside.milp.now + 1) c.self.inside.lines.rows c.args.row [] in_front in
    let basic = ap (λ (bs : List ℕ). get_or bs c.args.row 0) c.as_slice-basis.ensures.value in
    let line : c.row.result.now ≡ get_or (state g.W.Whole.meaning c.self.inside.milp.now c.self.inside.low.items c.self.inside.high.items c.self.inside.has_high.items c.self.inside.lines.rows c.self.inside.basis.items c.self.inside.at_high.items).lines c.args.row [] = c.row.ensures ∙ sym front in
    let law = g.met.W.Narrow.below_wide in
    let size : length c.deref.result.now ≡ length c.self.inside.low.items = ap length c.deref.ensures.value in
    let within : c.in-Err.column < length c.self.inside.low.items = (let l = c.in-Err.ensures.column.1 in omega arith) in
    subst (λ (s : State g.row.W.Denot). IsOutOfRange g.W.Whole.greatest (tableau_of g.W.Whole.meaning s) (Value c.args.row c.in-Err.column)) c.self.view_is
    (out_weaker g.W.Whole.greatest (2 ^ 255 - 1) (tableau_of g.W.Whole.meaning (state g.W.Whole.meaning c.self.inside.milp.now c.self.inside.low.items c.self.inside.high.items c.self.inside.has_high.items c.self.inside.lines.rows c.self.inside.basis.items c.self.inside.at_high.items)) (Value c.args.row c.in-Err.column) (omega (arith, law))
    (wide_sum g.W.Whole.meaning (state g.W.Whole.meaning c.self.inside.milp.now c.self.inside.low.items c.self.inside.high.items c.self.inside.has_high.items c.self.inside.lines.rows c.self.inside.basis.items c.self.inside.at_high.items) c.self.invariant.reached c.args.row i_row (2 ^ 255 - 1) c.in-Err.column c.in-Err.ensures.column.0 within
    (carry (λ (at : ℕ) (ts : List (Term g.row.W.Denot)) (lo hi : List g.row.W.Denot) (hh ah : List Bool). IsWideSum g.W.Whole.meaning ts at lo hi hh ah (2 ^ 255 - 1) c.in-Err.column) basic line c.deref.ensures.value c.deref-2.ensures.value (refl {a = c.self.inside.has_high.items}) c.deref-3.ensures.value (inl c.in-Err.ensures.wide))))
