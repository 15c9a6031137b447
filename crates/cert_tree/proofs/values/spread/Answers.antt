use Rattle.std.proofs.Common.{◌<◌, length, rules}
use Rattle.cert_tree.proofs.LeafLemmas.{spread_start, spread_row, spread_more}
use Rattle.cert_tree.proofs.values.spread.Goals as goal

pub loop-place-init : goal.loop-place-init
loop-place-init c = spread_start c.args.rows _ c.in_ok-spread.ensures

pub put-requires : goal.put-requires
put-requires c =
    let l : c.loop-place.place < length c.args.mults.now = search rules in
    spread_row c.args.rows c.loop-place.place c.args.mults.now c.loop-place.spread.items c.requires l c.loop-place.invariant

pub loop-place-preserved : goal.loop-place-preserved
loop-place-preserved c =
    let l : c.loop-place.place < length c.args.mults.now = search rules in
    rw c.put.ensures (spread_more c.args.rows c.loop-place.place c.args.mults.now c.loop-place.spread.items c.requires l c.loop-place.invariant)
