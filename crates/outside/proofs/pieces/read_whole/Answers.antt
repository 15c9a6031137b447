use Rattle.std.proofs.Common.{length-take, arith}
use Rattle.outside.proofs.KnownBytes.{Consumes-piece, length-piece}
use Rattle.outside.proofs.pieces.read_whole.Goals as goal

pub loop-preserved : goal.loop-preserved
loop-preserved g c =
    let bytes = c.loop.bytes.items in
    let grown = c.in_ok-extend_from_slice.ensures.items in
    let read = c.in-Ok.ensures in
    let longer = length-piece bytes _ c.read.new.buf _ c.in-Ok.taken grown read.bound.0 in
    (omega (arith, longer, c.read.auto.buf, length-take c.min-wanted.result c.loop.piece), omega (arith, longer), Consumes-piece _ _ _ bytes _ c.read.new.buf _ c.in-Ok.taken grown read.bound.0 c.loop.invariant.2 read.bytes.0)
