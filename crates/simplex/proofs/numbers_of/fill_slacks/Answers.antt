use Rattle.std.proofs.Common.{[], ◌∷◌, ◌+◌, length, length-append, ap, ◌∙◌}
use Rattle.std.specs.Prelude.{ℤ, neg_ℤ, FitsSigned, if◌then◌else◌}
use Rattle.std.specs.Int.{w128}
use Rattle.std.proofs.lemmas.Int.{to_z-of_z}
use Rattle.sparse_rows.specs.Lines.{entry_of}
use Rattle.simplex.proofs.Bridges.{slacks_more}
use Rattle.simplex.proofs.numbers_of.fill_slacks.Goals as goal

pub loop-k-preserved : goal.loop-k-preserved
loop-k-preserved g c =
    let fits : FitsSigned w128 c.slack_value.result = record { sfits = c.slack_value.type_inv } in
    let items = simp to_z-of_z at c.push_reserved.ensures.items in
    let so_far = c.loop-k.invariant in (
      c.push_reserved.ensures.capacity ∙ so_far.0,
      (
        ap length items ∙ length-append c.loop-k.list.items (c.slack_value.result ∷ []) ∙ ap (λ n. n + 1) so_far.1.0,
        λ end line. slacks_more c.args.columns c.loop-k.k c.args.turns (entry_of g.W.Whole.meaning c.args.row.now) c.loop-k.list.items c.push_reserved.new.self.items c.slack_value.result (so_far.1.1 end line) items
            (c.slack_value.ensures ∙ ap (λ (z : ℤ). if c.args.turns then (neg_ℤ z) else z) (c.entry-value.ensures end line)),
      ),
    )
