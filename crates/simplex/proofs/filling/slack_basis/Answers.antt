use Rattle.std.proofs.Common.{[], ◌∷◌, ◌+◌, length, length-append, refl, ap, ◌∙◌}
use Rattle.simplex.proofs.Fills.{basis_more}
use Rattle.simplex.proofs.filling.slack_basis.Goals as goal

pub loop-k-preserved : goal.loop-k-preserved
loop-k-preserved c =
    let so_far = c.loop-k.invariant in
    let items = c.push_reserved-in-loop-k.ensures.items in
    let slack = c.args.columns + c.loop-k.k + 1 in (
      ap length items ∙ length-append c.loop-k.basis.items (slack ∷ []) ∙ ap (λ n. n + 1) so_far.0,
      (
        c.push_reserved-in-loop-k.ensures.capacity ∙ so_far.1.0,
        basis_more c.loop-k.basis.items c.push_reserved-in-loop-k.new.self.items c.args.columns c.loop-k.k slack so_far.0 items refl so_far.1.1,
      ),
    )
