use Rattle.std.proofs.Common.{ap, ◌∙◌, refl, set}
use Rattle.term_store.proofs.RowsLemmas.{apart_terms}
use Rattle.term_store.proofs.rows.Rows.row.Goals as goal

pub returns-then-i-self : goal.returns-then-i-self
returns-then-i-self g c =
    c.as_slice.ensures
    ∙ apart_terms _ _ _ _ _ _ c.self.view_is c.args.i c.requires c.self.inside.rows.items c.self.inside.kept
    (ap (λ k. set c.self.inside.rows.items k c.self.inside.kept) c.if-i-self.true) refl
