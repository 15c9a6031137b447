use Rattle.std.proofs.Common.{List, length, false, arith, ap, sym, ◌∙◌, subst}
use Rattle.std.proofs.Common.{rules}
use Rattle.std.specs.Prelude.{FitsSigned}
use Rattle.std.specs.Int.{w128}
use Rattle.std.proofs.lemmas.Int.{to_z-of_z}
use Rattle.term_store.specs.declared.term.Term.{Term}
use Rattle.sparse_rows.specs.Lines.{entry_of, IsLine}
use Rattle.simplex.proofs.Endings.{own_numbers, slacks_at, slacks_within}
use Rattle.simplex.proofs.table.Tableau.own_numbers.Goals as goal

pub fill_slacks-requires-clause-few : goal.fill_slacks-requires-clause-few
fill_slacks-requires-clause-few g c = let s = c.rows-rows.ensures.laws.shape in let a = s.low in let b = s.few in let d = c.columns-columns.ensures in let e = c.rows-rows.ensures.count in omega arith

pub returns-clause-own : goal.returns-clause-own
returns-clause-own g c =
    let h = c.rows-rows.ensures.laws in
    let line = subst (λ (ts : List (Term g.row.W.Denot)). IsLine g.W.Whole.meaning 0 (length c.args.self.now.low) ts) (sym c.line-costs.ensures.value) (h.shape.rising 0 (omega arith)) in
    let fits : FitsSigned w128 c.wide.result = search rules in
    simp to_z-of_z
    (own_numbers g.W.Whole.meaning c.args.self.now h _ _
    (c.wide.ensures ∙ (c.entry.ensures (length c.args.self.now.low) line ∙ ap (λ (ts : List (Term g.row.W.Denot)). entry_of g.W.Whole.meaning ts 0) c.line-costs.ensures.value))
    (slacks_at g.W.Whole.meaning _ _ _ _ false _ _ _ c.columns-columns.ensures c.rows-rows.ensures.count c.line-costs.ensures.value (c.fill_slacks.ensures (length c.args.self.now.low) line)))

pub returns-clause-within : goal.returns-clause-within
returns-clause-within g c =
    let line = subst (λ (ts : List (Term g.row.W.Denot)). IsLine g.W.Whole.meaning 0 (length c.args.self.now.low) ts) (sym c.line-costs.ensures.value) (c.rows-rows.ensures.laws.shape.rising 0 (omega arith)) in
    slacks_within g.W.Whole.meaning g.W.Whole.greatest g.met.W.Whole.in_range _ _ _ _ _ (c.fill_slacks.ensures (length c.args.self.now.low) line)
