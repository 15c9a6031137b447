use Rattle.std.proofs.Common.{◌≡◌, ℕ, ◌+◌, ◌<◌, List, [], get_or, length, arith, ap, sym, ◌∙◌, subst}
use Rattle.std.proofs.lemmas.List.{get_or-take}
use Rattle.term_store.specs.declared.term.Term.{Term}
use Rattle.programs.specs.Programs.{row_count}
use Rattle.tableau.specs.Exchanges.{IsGoodAt}
use Rattle.sparse_rows.specs.Lines.{entry_of, IsLine}
use Rattle.sparse_rows.proofs.Tests.{told_false}
use Rattle.simplex.specs.States.{State, tableau_of, KeepsLaws}
use Rattle.simplex.proofs.Selections.{good_by_order, good_by_cost}
use Rattle.simplex.proofs.table.Tableau.choose.Goals as goal

pub returns-then-is_zero : goal.returns-then-is_zero
returns-then-is_zero g c =
    let reached = subst (λ (s : State g.row.W.Denot). KeepsLaws g.W.Whole.meaning s) c.self.view_is c.self.invariant.reached in
    let found = c.in-Ok.ensures.priced in
    let first = found.some c.if-first-eq0.false in
    let chosen = c.in-Some.ensures.chosen in
    let good = good_by_order g.W.Whole.meaning c.args.self.now reached c.in-Ok.priced.0.0 first.0 c.in-Ok.priced.0.1 first.1 c.in-Some.column chosen
    (λ k other k_row outside. let l = found.least k other k_row.0 k_row.1 outside in let e = first.2 in omega arith) in (
      c.in-Ok.priced.0.1,
      subst (λ (n : ℕ). IsGoodAt (tableau_of g.W.Whole.meaning c.args.self.now) n c.exchange_of.result.col c.in-Ok.priced.0.1) (sym c.exchange_of.ensures.row)
          (subst (λ (n : ℕ). IsGoodAt (tableau_of g.W.Whole.meaning c.args.self.now) c.in-Ok.priced.0.0 n c.in-Ok.priced.0.1) (sym c.exchange_of.ensures.col) good),
    )

pub returns-then-is_zero-2 : goal.returns-then-is_zero-2
returns-then-is_zero-2 g c =
    let reached = subst (λ (s : State g.row.W.Denot). KeepsLaws g.W.Whole.meaning s) c.self.view_is c.self.invariant.reached in
    let found = c.in-Ok.ensures.priced in
    let first = found.some c.if-first-eq0.false in
    let chosen = c.in-Some.ensures.chosen in
    let good = good_by_order g.W.Whole.meaning c.args.self.now reached c.in-Ok.priced.0.0 first.0 c.in-Ok.priced.0.1 first.1 c.in-Some.column chosen
    (λ k other k_row outside. let l = found.least k other k_row.0 k_row.1 outside in let e = first.2 in omega arith) in (
      c.in-Ok.priced.0.1,
      subst (λ (n : ℕ). IsGoodAt (tableau_of g.W.Whole.meaning c.args.self.now) n c.exchange_of-then-is_zero-2.result.col c.in-Ok.priced.0.1) (sym c.exchange_of-then-is_zero-2.ensures.row)
          (subst (λ (n : ℕ). IsGoodAt (tableau_of g.W.Whole.meaning c.args.self.now) c.in-Ok.priced.0.0 n c.in-Ok.priced.0.1) (sym c.exchange_of-then-is_zero-2.ensures.col) good),
    )

pub returns : goal.returns
returns g c =
    let reached = subst (λ (s : State g.row.W.Denot). KeepsLaws g.W.Whole.meaning s) c.self.view_is c.self.invariant.reached in
    let found = c.in-Ok.ensures.priced in
    let another = found.another c.if-first-eq0.false in
    let chosen = c.in-Some-ratio_test.ensures.chosen in
    let first : 0 < row_count c.self.inside.milp.now + 1 = omega arith in
    let front = get_or-take (row_count c.self.inside.milp.now + 1) c.self.inside.lines.rows 0 [] first in
    let costs : c.row-2.result.now ≡ get_or c.args.self.now.lines 0 [] = c.row-2.ensures ∙ (sym front ∙ ap (λ (s : State g.row.W.Denot). get_or s.lines 0 []) c.self.view_is) in
    let line = subst (λ (ts : List (Term g.row.W.Denot)). IsLine g.W.Whole.meaning 0 (length c.args.self.now.low) ts) (sym costs) (reached.shape.rising 0 (omega arith)) in
    let cost = c.entry-2.ensures (length c.args.self.now.low) line ∙ ap (λ (ts : List (Term g.row.W.Denot)). entry_of g.W.Whole.meaning ts c.in-Some-ratio_test.other) costs in
    let some = told_false c.is_zero-2.result c.if-is_zero-2.false c.is_zero-2.ensures in
    let good = good_by_cost g.W.Whole.meaning c.args.self.now reached c.in-Ok.priced.1.0 another.0 c.in-Ok.priced.1.1 another.1 c.in-Some-ratio_test.other chosen (λ z. some (cost ∙ z)) in (
      c.in-Ok.priced.1.1,
      subst (λ (n : ℕ). IsGoodAt (tableau_of g.W.Whole.meaning c.args.self.now) n c.exchange_of-2.result.col c.in-Ok.priced.1.1) (sym c.exchange_of-2.ensures.row)
          (subst (λ (n : ℕ). IsGoodAt (tableau_of g.W.Whole.meaning c.args.self.now) c.in-Ok.priced.1.0 n c.in-Ok.priced.1.1) (sym c.exchange_of-2.ensures.col) good),
    )
