use Rattle.std.proofs.Common.{◌≡◌, ℕ, ◌+◌, ◌-◌, ◌^◌, ◌<◌, List, [], get_or, length, Bool, arith, ap, sym, ◌∙◌, subst}
use Rattle.std.proofs.lemmas.List.{get_or-take}
use Rattle.term_store.specs.declared.term.Term.{Term}
use Rattle.programs.specs.Programs.{row_count}
use Rattle.tableau.specs.Tableaux.{IsRow}
use Rattle.tableau.specs.Exchanges.{IsOutside}
use Rattle.tableau.specs.Operations.{IsOutOfRange}
use Rattle.tableau.specs.declared.bound.Bound.{Bound}
use Rattle.tableau.specs.declared.bound.Bound.TheVariants.{Lower, Upper}
use Rattle.tableau.specs.declared.op.Op.TheVariants.{Value}
use Rattle.sparse_rows.specs.Lines.{IsLine}
use Rattle.simplex.specs.States.{State, tableau_of}
use Rattle.simplex.specs.inside.Choices.{IsBroken, IsWideSum}
use Rattle.simplex.proofs.Keeping.{state}
use Rattle.simplex.proofs.Breaks.{carry, some_weaker, none_both, out_weaker}
use Rattle.simplex.proofs.Selections.{line_first, outside_of_broken, broken_of_outside, wide_sum}
use Rattle.simplex.proofs.table.Tableau.outside.Goals as goal

pub broken_bound-requires-clause-line : goal.broken_bound-requires-clause-line
broken_bound-requires-clause-line g c =
    let i_row : IsRow (tableau_of g.W.Whole.meaning (state g.W.Whole.meaning c.self.inside.milp.now c.self.inside.low.items c.self.inside.high.items c.self.inside.has_high.items c.self.inside.lines.rows c.self.inside.basis.items c.self.inside.at_high.items)) c.args.row = subst (λ (s : State g.row.W.Denot). IsRow (tableau_of g.W.Whole.meaning s) c.args.row) (sym c.self.view_is) c.requires in
    let in_front : c.args.row < row_count c.self.inside.milp.now + 1 = (let l = i_row.1 in omega arith) in
    let front = get_or-take (row_count c.self.inside.milp.now + 1) c.self.inside.lines.rows c.args.row [] in_front in
    let basic = ap (λ (bs : List ℕ). get_or bs c.args.row 0) c.as_slice-basis.ensures.value in
    let line : c.row.result.now ≡ get_or (state g.W.Whole.meaning c.self.inside.milp.now c.self.inside.low.items c.self.inside.high.items c.self.inside.has_high.items c.self.inside.lines.rows c.self.inside.basis.items c.self.inside.at_high.items).lines c.args.row [] = c.row.ensures ∙ sym front in
    subst (λ (n : ℕ). IsLine g.W.Whole.meaning 1 n c.row.result.now) (sym (ap length c.deref.ensures.value))
    (subst (λ (ts : List (Term g.row.W.Denot)). IsLine g.W.Whole.meaning 1 (length c.self.inside.low.items) ts) (sym line) (line_first g.W.Whole.meaning (state g.W.Whole.meaning c.self.inside.milp.now c.self.inside.low.items c.self.inside.high.items c.self.inside.has_high.items c.self.inside.lines.rows c.self.inside.basis.items c.self.inside.at_high.items) c.self.invariant.reached c.args.row i_row))

pub returns-in-Ok-clause-outside : goal.returns-in-Ok-clause-outside
returns-in-Ok-clause-outside g c =
    let i_row : IsRow (tableau_of g.W.Whole.meaning (state g.W.Whole.meaning c.self.inside.milp.now c.self.inside.low.items c.self.inside.high.items c.self.inside.has_high.items c.self.inside.lines.rows c.self.inside.basis.items c.self.inside.at_high.items)) c.args.row = subst (λ (s : State g.row.W.Denot). IsRow (tableau_of g.W.Whole.meaning s) c.args.row) (sym c.self.view_is) c.requires in
    let in_front : c.args.row < row_count c.self.inside.milp.now + 1 = (let l = i_row.1 in omega arith) in
    let front = get_or-take (row_count c.self.inside.milp.now + 1) c.self.inside.lines.rows c.args.row [] in_front in
    let basic = ap (λ (bs : List ℕ). get_or bs c.args.row 0) c.as_slice-basis.ensures.value in
    let line : c.row.result.now ≡ get_or (state g.W.Whole.meaning c.self.inside.milp.now c.self.inside.low.items c.self.inside.high.items c.self.inside.has_high.items c.self.inside.lines.rows c.self.inside.basis.items c.self.inside.at_high.items).lines c.args.row [] = c.row.ensures ∙ sym front in
    some_weaker _ _ c.in-Ok.broken
    (λ x h. subst (λ (s : State g.row.W.Denot). IsOutside (tableau_of g.W.Whole.meaning s) c.args.row x.0) c.self.view_is
    (outside_of_broken g.W.Whole.meaning (state g.W.Whole.meaning c.self.inside.milp.now c.self.inside.low.items c.self.inside.high.items c.self.inside.has_high.items c.self.inside.lines.rows c.self.inside.basis.items c.self.inside.at_high.items) c.self.invariant.reached c.args.row i_row x.0 (carry (λ (at : ℕ) (ts : List (Term g.row.W.Denot)) (lo hi : List g.row.W.Denot) (hh ah : List Bool). IsBroken g.W.Whole.meaning ts at lo hi hh ah x.0) basic line c.deref.ensures.value c.deref-2.ensures.value c.deref-3.ensures.value c.deref-4.ensures.value h)))
    c.in-Ok.ensures.broken

pub returns-in-Ok-clause-inside : goal.returns-in-Ok-clause-inside
returns-in-Ok-clause-inside g c =
    let i_row : IsRow (tableau_of g.W.Whole.meaning (state g.W.Whole.meaning c.self.inside.milp.now c.self.inside.low.items c.self.inside.high.items c.self.inside.has_high.items c.self.inside.lines.rows c.self.inside.basis.items c.self.inside.at_high.items)) c.args.row = subst (λ (s : State g.row.W.Denot). IsRow (tableau_of g.W.Whole.meaning s) c.args.row) (sym c.self.view_is) c.requires in
    let in_front : c.args.row < row_count c.self.inside.milp.now + 1 = (let l = i_row.1 in omega arith) in
    let front = get_or-take (row_count c.self.inside.milp.now + 1) c.self.inside.lines.rows c.args.row [] in_front in
    let basic = ap (λ (bs : List ℕ). get_or bs c.args.row 0) c.as_slice-basis.ensures.value in
    let line : c.row.result.now ≡ get_or (state g.W.Whole.meaning c.self.inside.milp.now c.self.inside.low.items c.self.inside.high.items c.self.inside.has_high.items c.self.inside.lines.rows c.self.inside.basis.items c.self.inside.at_high.items).lines c.args.row [] = c.row.ensures ∙ sym front in
    none_both _ _ _ c.in-Ok.broken
    (λ low_case high_case bound outside. both (λ (x : Bound). IsBroken g.W.Whole.meaning c.row.result.now (get_or c.as_slice-basis.result.now c.args.row 0) c.deref.result.now c.deref-2.result.now c.deref-3.result.now c.deref-4.result.now x) bound low_case high_case
    (carry (λ (at : ℕ) (ts : List (Term g.row.W.Denot)) (lo hi : List g.row.W.Denot) (hh ah : List Bool). IsBroken g.W.Whole.meaning ts at lo hi hh ah bound) (sym basic) (sym line) (sym c.deref.ensures.value) (sym c.deref-2.ensures.value) (sym c.deref-3.ensures.value) (sym c.deref-4.ensures.value)
    (broken_of_outside g.W.Whole.meaning (state g.W.Whole.meaning c.self.inside.milp.now c.self.inside.low.items c.self.inside.high.items c.self.inside.has_high.items c.self.inside.lines.rows c.self.inside.basis.items c.self.inside.at_high.items) c.self.invariant.reached c.args.row i_row bound (subst (λ (s : State g.row.W.Denot). IsOutside (tableau_of g.W.Whole.meaning s) c.args.row bound) (sym c.self.view_is) outside))))
    c.in-Ok.ensures.not_low c.in-Ok.ensures.not_high
  where
    both : (Q : Bound → Type 0) (b : Bound) → (Q Lower → ⊥) → (Q Upper → ⊥) → Q b → ⊥
    both Q Lower p q h = p h
    both Q Upper p q h = q h

pub returns-in-Err-clause-wide : goal.returns-in-Err-clause-wide
returns-in-Err-clause-wide g c =
    let i_row : IsRow (tableau_of g.W.Whole.meaning (state g.W.Whole.meaning c.self.inside.milp.now c.self.inside.low.items c.self.inside.high.items c.self.inside.has_high.items c.self.inside.lines.rows c.self.inside.basis.items c.self.inside.at_high.items)) c.args.row = subst (λ (s : State g.row.W.Denot). IsRow (tableau_of g.W.Whole.meaning s) c.args.row) (sym c.self.view_is) c.requires in
    let in_front : c.args.row < row_count c.self.inside.milp.now + 1 = (let l = i_row.1 in omega arith) in
    let front = get_or-take (row_count c.self.inside.milp.now + 1) c.self.inside.lines.rows c.args.row [] in_front in
    let basic = ap (λ (bs : List ℕ). get_or bs c.args.row 0) c.as_slice-basis.ensures.value in
    let line : c.row.result.now ≡ get_or (state g.W.Whole.meaning c.self.inside.milp.now c.self.inside.low.items c.self.inside.high.items c.self.inside.has_high.items c.self.inside.lines.rows c.self.inside.basis.items c.self.inside.at_high.items).lines c.args.row [] = c.row.ensures ∙ sym front in
    let law = g.met.W.Narrow.below_wide in
    let size : length c.deref.result.now ≡ length c.self.inside.low.items = ap length c.deref.ensures.value in
    let within : c.in-Err.column < length c.self.inside.low.items = (let l = c.in-Err.ensures.column.1 in omega arith) in
    subst (λ (s : State g.row.W.Denot). IsOutOfRange g.W.Whole.greatest (tableau_of g.W.Whole.meaning s) (Value c.args.row c.in-Err.column)) c.self.view_is
    (out_weaker g.W.Whole.greatest (2 ^ 255 - 1) (tableau_of g.W.Whole.meaning (state g.W.Whole.meaning c.self.inside.milp.now c.self.inside.low.items c.self.inside.high.items c.self.inside.has_high.items c.self.inside.lines.rows c.self.inside.basis.items c.self.inside.at_high.items)) (Value c.args.row c.in-Err.column) (omega (arith, law))
    (wide_sum g.W.Whole.meaning (state g.W.Whole.meaning c.self.inside.milp.now c.self.inside.low.items c.self.inside.high.items c.self.inside.has_high.items c.self.inside.lines.rows c.self.inside.basis.items c.self.inside.at_high.items) c.self.invariant.reached c.args.row i_row (2 ^ 255 - 1) c.in-Err.column c.in-Err.ensures.column.0 within
    (carry (λ (at : ℕ) (ts : List (Term g.row.W.Denot)) (lo hi : List g.row.W.Denot) (hh ah : List Bool). IsWideSum g.W.Whole.meaning ts at lo hi hh ah (2 ^ 255 - 1) c.in-Err.column) basic line c.deref.ensures.value c.deref-2.ensures.value c.deref-3.ensures.value c.deref-4.ensures.value c.in-Err.ensures.wide)))
