use Rattle.std.proofs.Common.{◌-◌, length, drop, length-drop, arith}
use Rattle.std.proofs.lemmas.List.{take_all}
use Rattle.outside.proofs.KnownBytes.{Appends-take}
use Rattle.outside.proofs.pieces.write_whole.Goals as goal

pub loop-done-preserved : goal.loop-done-preserved
loop-done-preserved g c =
    let bytes = c.args.bytes.now in
    let done = c.loop-done.done in
    let rest = take_all (length bytes - done) (drop done bytes) (omega (arith, length-drop done bytes)) in
    (omega (arith, length-drop done bytes, c.in-Ok.ensures.bound), Appends-take _ _ _ bytes _ done c.in-Ok.taken rest c.loop-done.invariant.1 c.in-Ok.ensures.bytes)
