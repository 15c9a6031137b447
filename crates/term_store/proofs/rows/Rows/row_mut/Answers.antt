use Rattle.std.proofs.Common.{ap, ◌∙◌, ◌≤◌, min, refl, sym}
use Rattle.term_store.proofs.RowsLemmas.{named, apart_terms, after_loan, wide, keeps_width, in_order_again}
use Rattle.term_store.proofs.rows.Rows.row_mut.Goals as goal

pub invariant_of-self-lent : goal.invariant_of-self-lent
invariant_of-self-lent g c w =
    in_order_again c.self.inside.width _ _ c.self.inside.kept c.keep_apart.new.kept c.self.invariant.1.1 c.keep_apart.ensures.rooms
    _ c.args.i _ _ c.self.invariant.0 (named _ _ _ _ _ _ c.self.view_is c.args.i c.requires).1
    c.keep_apart.ensures.len c.keep_apart.ensures.place
    (c.min-self-inside.ensures ∙ ap (min c.self.inside.width) c.room.ensures)

pub returns : goal.returns
returns g c =
    let place = c.keep_apart.ensures.place in
    let least = c.min-self-inside.ensures ∙ ap (min c.self.inside.width) c.room.ensures in
    let order = c.keep_apart.ensures.in_order in
    let len = c.keep_apart.ensures.len in
    let room : c.args.self.now.width ≤ c.keep_apart.new.kept.room = rw (sym c.self.view_is) (wide c.self.inside.width _ _ c.self.inside.kept c.keep_apart.new.kept c.self.invariant.1.1 c.keep_apart.ensures.rooms).0 in (
      (refl, λ w. after_loan _ _ _ _ _ _ c.self.view_is c.args.i c.requires _ _ order len _ _ w place least),
      record {
        writes_back = tt;
        terms = apart_terms _ _ _ _ _ _ c.self.view_is c.args.i c.requires _ _ order len;
        room = room;
        width = keeps_width c.args.self.now c.args.i c.keep_apart.new.kept.room room;
      },
    )
