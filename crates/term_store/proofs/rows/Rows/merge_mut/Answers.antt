use Rattle.std.proofs.Common.{ap, ◌∙◌, ◌≤◌, min, refl, sym}
use Rattle.term_store.specs.HeldRow.{HeldRow}
use Rattle.term_store.proofs.RowsLemmas.{named, apart_terms, other_terms, after_loan, wide, keeps_width, in_order_again}
use Rattle.term_store.proofs.rows.Rows.merge_mut.Goals as goal

pub invariant_of-self-lent : goal.invariant_of-self-lent
invariant_of-self-lent g c w =
    in_order_again c.self.inside.width _ _ c.self.inside.kept c.keep_apart.new.kept c.self.invariant.1.1 c.keep_apart.ensures.rooms
    _ c.args.k _ _ c.self.invariant.0 (named _ _ _ _ _ _ c.self.view_is c.args.k c.requires.rows.1.1).1
    c.keep_apart.ensures.len c.keep_apart.ensures.place
    (c.min-self-inside.ensures ∙ ap (min c.self.inside.width) c.room.ensures)

pub returns : goal.returns
returns g c =
    let place = c.keep_apart.ensures.place in
    let least = c.min-self-inside.ensures ∙ ap (min c.self.inside.width) c.room.ensures in
    let order = c.keep_apart.ensures.in_order in
    let len = c.keep_apart.ensures.len in
    let room : c.args.self.now.width ≤ c.keep_apart.new.kept.room = rw (sym c.self.view_is) (wide c.self.inside.width _ _ c.self.inside.kept c.keep_apart.new.kept c.self.invariant.1.1 c.keep_apart.ensures.rooms).0 in
    let within = c.requires.rows.1.1 in (
      (refl, λ w. after_loan _ _ _ _ _ _ c.self.view_is c.args.k within _ _ order len _ _ w place least),
      record {
        writes_back = tt;
        left = c.as_slice-left.ensures ∙ (ap (λ (r : HeldRow _). r.terms) c.index.ensures
            ∙ other_terms _ _ _ _ _ _ c.self.view_is c.args.k within _ _ order len c.args.i _ c.requires.rows.0 (λ e. c.requires.written.0 (sym e)));
        right = c.as_slice-right.ensures ∙ (ap (λ (r : HeldRow _). r.terms) c.index-2.ensures
            ∙ other_terms _ _ _ _ _ _ c.self.view_is c.args.k within _ _ order len c.args.j _ c.requires.rows.1.0 (λ e. c.requires.written.1 (sym e)));
        terms = apart_terms _ _ _ _ _ _ c.self.view_is c.args.k within _ _ order len;
        room = room;
        width = keeps_width c.args.self.now c.args.k c.keep_apart.new.kept.room room;
      },
    )
