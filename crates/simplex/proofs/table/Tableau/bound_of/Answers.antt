use Rattle.std.proofs.Common.{List, Bool, arith, ap, ◌∙◌, subst}
use Rattle.sparse_rows.specs.Sums.{standing_at}
use Rattle.simplex.specs.States.{State, KeepsLaws}
use Rattle.simplex.proofs.Selections.{stands_same}
use Rattle.simplex.proofs.table.Tableau.bound_of.Goals as goal

pub returns : goal.returns
returns g c =
    let h = subst (λ (s : State g.row.W.Denot). KeepsLaws g.W.Whole.meaning s) c.self.view_is c.self.invariant.reached in
    let low = c.deref.ensures.value ∙ ap (λ (s : State g.row.W.Denot). s.low) c.self.view_is in
    let high = c.deref-2.ensures.value ∙ ap (λ (s : State g.row.W.Denot). s.high) c.self.view_is in
    let at_high = c.deref-3.ensures.value ∙ ap (λ (s : State g.row.W.Denot). s.at_high) c.self.view_is in
    c.standing.ensures
    ∙ (ap (λ (xs : List g.row.W.Denot). standing_at g.W.Whole.meaning xs c.deref-2.result.now c.deref-3.result.now c.args.column) low
    ∙ (ap (λ (xs : List g.row.W.Denot). standing_at g.W.Whole.meaning c.args.self.now.low xs c.deref-3.result.now c.args.column) high
    ∙ (ap (λ (bs : List Bool). standing_at g.W.Whole.meaning c.args.self.now.low c.args.self.now.high bs c.args.column) at_high
    ∙ stands_same g.W.Whole.meaning c.args.self.now h c.args.column c.requires.first (omega arith))))
