use Rattle.std.proofs.Common.{◌≡◌, List, length, arith, sym, subst}
use Rattle.std.specs.Prelude.{ℤ, neg_ℤ, if◌then◌else◌}
use Rattle.term_store.specs.declared.term.Term.{Term}
use Rattle.sparse_rows.specs.Lines.{IsLine}
use Rattle.tableau.specs.Ends.{turned_by}
use Rattle.simplex.proofs.Endings.{own_ray, ray_has_signs, ray_above, slacks_at, slacks_within}
use Rattle.simplex.proofs.table.Tableau.fill_ray.Goals as goal

pub fill_slacks-requires-clause-few : goal.fill_slacks-requires-clause-few
fill_slacks-requires-clause-few g c = let s = c.rows-rows.ensures.laws.shape in let a = s.low in let b = s.few in let d = c.columns-columns.ensures in let e = c.rows-rows.ensures.count in omega arith

pub returns-clause-own : goal.returns-clause-own
returns-clause-own g c =
    let h = c.rows-rows.ensures.laws in
    let line = subst (λ (ts : List (Term g.row.W.Denot)). IsLine g.W.Whole.meaning 0 (length c.args.self.now.low) ts) (sym c.line.ensures.value) (h.shape.rising c.args.row c.requires.empty.row.1) in
    own_ray g.W.Whole.meaning c.args.self.now h c.args.row c.args.broken c.ray_turns-turns.result _
    (slacks_at g.W.Whole.meaning _ _ _ _ c.ray_turns-turns.result _ _ _ c.columns-columns.ensures c.rows-rows.ensures.count c.line.ensures.value (c.fill_slacks.ensures (length c.args.self.now.low) line))
    (λ z. subst (λ (b : ℤ). turned_by c.args.broken b z ≡ (if c.ray_turns-turns.result then (neg_ℤ z) else z)) c.pivot.ensures.value (c.ray_turns-turns.ensures z))

pub returns-clause-signs : goal.returns-clause-signs
returns-clause-signs g c = ray_has_signs g.W.Whole.meaning c.args.self.now c.rows-rows.ensures.laws c.args.row c.args.broken c.requires.empty _ (returns-clause-own g c)

pub returns-clause-above : goal.returns-clause-above
returns-clause-above g c = ray_above g.W.Whole.meaning c.args.self.now c.rows-rows.ensures.laws c.args.row c.args.broken c.requires.empty _ (returns-clause-own g c)

pub returns-clause-within : goal.returns-clause-within
returns-clause-within g c =
    let line = subst (λ (ts : List (Term g.row.W.Denot)). IsLine g.W.Whole.meaning 0 (length c.args.self.now.low) ts) (sym c.line.ensures.value) (c.rows-rows.ensures.laws.shape.rising c.args.row c.requires.empty.row.1) in
    slacks_within g.W.Whole.meaning g.W.Whole.greatest g.met.W.Whole.in_range _ _ _ _ _ (c.fill_slacks.ensures (length c.args.self.now.low) line)
