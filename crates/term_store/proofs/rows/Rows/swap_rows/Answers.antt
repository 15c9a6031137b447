use Rattle.std.proofs.Common.{ap, ◌∙◌, min}
use Rattle.term_store.specs.inside.Lending.{seen}
use Rattle.term_store.proofs.RowsLemmas.{named, after_swap, in_order_after_swap, same_width, wide, fit_after_swap}
use Rattle.term_store.proofs.rows.Rows.swap_rows.Goals as goal

pub invariant_of-self : goal.invariant_of-self
invariant_of-self g c =
    in_order_after_swap c.self.inside.width _ _ c.self.inside.kept c.keep_apart.new.kept c.self.invariant.1.1 c.keep_apart.ensures.rooms
    _ _ _ _ _ c.self.invariant.0
    (named _ _ _ _ _ _ c.self.view_is c.args.i c.requires.0).1
    (named _ _ _ _ _ _ c.self.view_is c.args.k c.requires.1).1
    c.keep_apart.ensures.len c.swap.ensures.items
    (c.min-self-inside.ensures ∙ ap (min c.self.inside.width) c.room.ensures)

pub returns-clause-rows : goal.returns-clause-rows
returns-clause-rows g c =
    after_swap _ _ _ _ _ _ c.self.view_is c.args.i c.args.k _ _ c.keep_apart.new.kept c.requires.0 c.requires.1
    c.keep_apart.ensures.in_order c.keep_apart.ensures.len c.swap.ensures.items

pub returns-clause-width : goal.returns-clause-width
returns-clause-width g c =
    same_width _ _ _ _ _ _ c.self.view_is _ _
    (c.min-self-inside.ensures ∙ ap (min c.self.inside.width) c.room.ensures)
    (wide c.self.inside.width _ _ c.self.inside.kept c.keep_apart.new.kept c.self.invariant.1.1 c.keep_apart.ensures.rooms).0

pub returns-clause-fit : goal.returns-clause-fit
returns-clause-fit g c all =
    fit_after_swap c.args.self.now (seen c.self.inside.count c.min-self-inside.result c.swap.new.self.items c.args.k c.keep_apart.new.kept)
    (returns-clause-width g c) all c.args.i c.args.k (returns-clause-rows g c) c.requires.0 c.requires.1
