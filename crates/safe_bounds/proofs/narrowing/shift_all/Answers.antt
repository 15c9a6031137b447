use Rattle.std.proofs.Common.{rules, get_or}
use Rattle.std.specs.Prelude.{pos, FitsSigned}
use Rattle.std.specs.Int.{w128}
use Rattle.std.proofs.lemmas.Int.{to_z-of_z}
use Rattle.safe_bounds.specs.Narrowing.{shifted}
use Rattle.safe_bounds.proofs.NarrowingLemmas.{next_shifted}
use Rattle.safe_bounds.proofs.narrowing.shift_all.Goals as goal

pub loop-place-preserved : goal.loop-place-preserved
loop-place-preserved c =
    let old : FitsSigned w128 (get_or c.loop-place.mults c.loop-place.place (pos 0)) = search rules in
    let new : FitsSigned w128 c.shift.result = search rules in
    let value = simp to_z-of_z at c.shift.ensures in
    simp to_z-of_z (next_shifted (shifted c.args.bits) c.args.mults.now c.loop-place.mults c.loop-place.place c.shift.result c.loop-place-test.true c.loop-place.invariant value)
