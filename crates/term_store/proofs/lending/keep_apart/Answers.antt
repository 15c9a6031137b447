use Rattle.std.proofs.Common.{◌∙◌, ap, slice_set}
use Rattle.term_store.proofs.RowsLemmas.{put_again}
use Rattle.term_store.proofs.lending.keep_apart.Goals as goal

pub returns-then-k-place-clause-in_order : goal.returns-then-k-place-clause-in_order
returns-then-k-place-clause-in_order g c =
    put_again _ c.args.k _ _ _ c.swap-then-k-place.ensures.y_after c.index_mut-then-k-place.ensures.value
    ∙ ap (slice_set c.args.rows.now.items c.args.place.now) c.swap.ensures.x_after
