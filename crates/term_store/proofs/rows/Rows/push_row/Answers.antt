use Rattle.std.proofs.Common.{ap, ◌∙◌, ◌++◌, ◌∷◌, ◌+◌, ◌≤◌, [], min, sym, arith}
use Rattle.term_store.specs.inside.Lending.{seen}
use Rattle.term_store.proofs.RowsLemmas.{after_push, free_row, in_order_again, same_width, wide, fit_after_push}
use Rattle.term_store.proofs.rows.Rows.push_row.Goals as goal

pub refill-requires : goal.refill-requires
refill-requires g c =
    let room : c.args.self.now.width ≤ c.keep_apart.new.kept.room = rw (sym c.self.view_is) (wide c.self.inside.width _ _ c.self.inside.kept c.keep_apart.new.kept c.self.invariant.1.1 c.keep_apart.ensures.rooms).0 in
    omega (arith, room, c.requires.fits)

pub invariant_of-self : goal.invariant_of-self
invariant_of-self g c =
    let free = free_row _ _ _ _ _ _ c.self.view_is c.self.invariant.0 c.requires.free in
    in_order_again c.self.inside.width _ _ c.self.inside.kept c.keep_apart.new.kept c.self.invariant.1.1 c.keep_apart.ensures.rooms
    (c.self.inside.count + 1) c.self.inside.count _ _ (omega (arith, free)) free
    c.keep_apart.ensures.len c.keep_apart.ensures.place
    (c.min-self-inside.ensures ∙ ap (min c.self.inside.width) c.room.ensures)

pub returns-clause-rows : goal.returns-clause-rows
returns-clause-rows g c =
    after_push _ _ _ _ _ _ c.self.view_is _ c.keep_apart.new.kept c.refill.new.self _ c.self.invariant.0 c.requires.free
    c.keep_apart.ensures.in_order c.keep_apart.ensures.place
    ∙ ap (λ terms. c.args.self.now.rows ++ terms ∷ []) c.refill.ensures.terms

pub returns-clause-width : goal.returns-clause-width
returns-clause-width g c =
    same_width _ _ _ _ _ _ c.self.view_is _ _
    (c.min-self-inside.ensures ∙ ap (min c.self.inside.width) c.room.ensures)
    (rw c.refill.ensures.room (wide c.self.inside.width _ _ c.self.inside.kept c.keep_apart.new.kept c.self.invariant.1.1 c.keep_apart.ensures.rooms).0)

pub returns-clause-fit : goal.returns-clause-fit
returns-clause-fit g c all =
    fit_after_push c.args.self.now (seen (c.self.inside.count + 1) c.min-self-inside.result c.keep_apart.new.rows.items c.keep_apart.new.place c.refill.new.self)
    (returns-clause-width g c) all c.args.terms.now (returns-clause-rows g c) c.requires.fits
