use Rattle.std.proofs.Common.{◌≡◌, ℕ, List, [], get_or, length, ap, sym, ◌∙◌, subst}
use Rattle.term_store.specs.declared.term.Term.{Term}
use Rattle.sparse_rows.specs.Lines.{entry_of, IsLine}
use Rattle.tableau.specs.Tableaux.{basic_entry}
use Rattle.simplex.specs.States.{tableau_of}
use Rattle.simplex.proofs.table.Tableau.pivot.Goals as goal

pub returns-clause-value : goal.returns-clause-value
returns-clause-value g c =
    let line = subst (λ (ts : List (Term g.row.W.Denot)). IsLine g.W.Whole.meaning 0 (length c.args.self.now.low) ts) (sym c.line.ensures.value) (c.line.ensures.laws.shape.rising c.args.row c.requires.1) in
    c.entry.ensures (length c.args.self.now.low) line
    ∙ (ap (λ (ts : List (Term g.row.W.Denot)). entry_of g.W.Whole.meaning ts c.basic.result) c.line.ensures.value
    ∙ ap (λ (j : ℕ). entry_of g.W.Whole.meaning (get_or c.args.self.now.lines c.args.row []) j) c.basic.ensures)

pub returns-clause-nonzero : goal.returns-clause-nonzero
returns-clause-nonzero g c =
    let line = subst (λ (ts : List (Term g.row.W.Denot)). IsLine g.W.Whole.meaning 0 (length c.args.self.now.low) ts) (sym c.line.ensures.value) (c.line.ensures.laws.shape.rising c.args.row c.requires.1) in
    let value : g.W.Whole.meaning c.entry.result ≡ basic_entry (tableau_of g.W.Whole.meaning c.args.self.now) c.args.row =
    c.entry.ensures (length c.args.self.now.low) line
    ∙ (ap (λ (ts : List (Term g.row.W.Denot)). entry_of g.W.Whole.meaning ts c.basic.result) c.line.ensures.value
    ∙ ap (λ (j : ℕ). entry_of g.W.Whole.meaning (get_or c.args.self.now.lines c.args.row []) j) c.basic.ensures) in
    λ z. c.line.ensures.laws.laws.basis.entry c.args.row c.requires (sym value ∙ z)
