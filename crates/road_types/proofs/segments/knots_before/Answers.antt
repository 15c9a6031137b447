use Rattle.std.proofs.Common.{◌+◌, arith, drop, get_or, FitsSigned, rules}
use Rattle.std.specs.Prelude.{pos}
use Rattle.std.specs.Int.{w64}
use Rattle.std.proofs.lemmas.Int.{to_z-of_z}
use Rattle.road_types.specs.Heights.{knots_before}
use Rattle.road_types.proofs.ListRests.{knots_more, knots_none, knots_stop, knots_go}
use Rattle.road_types.proofs.segments.knots_before.Goals as goal

pub returns-then-knot-station : goal.returns-then-knot-station
returns-then-knot-station c =
    let station = c.ranges.station in
    let knot : FitsSigned w64 (get_or c.args.knots.now c.loop-before.before (pos 0)) = search rules in
    let more = knots_more c.args.station c.args.knots.now c.loop-before.before (pos 0) c.loop-before-test.true in
    let so_far = simp to_z-of_z at c.loop-before.invariant in
    let stop = knots_stop c.args.station (get_or c.args.knots.now c.loop-before.before (pos 0)) (knots_before (drop (c.loop-before.before + 1) c.args.knots.now) c.args.station) (simp to_z-of_z at c.if-knot-station.true) in
    omega (arith, so_far, more, stop)

pub loop-before-preserved : goal.loop-before-preserved
loop-before-preserved c =
    let station = c.ranges.station in
    let knot : FitsSigned w64 (get_or c.args.knots.now c.loop-before.before (pos 0)) = search rules in
    let more = knots_more c.args.station c.args.knots.now c.loop-before.before (pos 0) c.loop-before-test.true in
    let so_far = simp to_z-of_z at c.loop-before.invariant in
    let go = knots_go c.args.station (get_or c.args.knots.now c.loop-before.before (pos 0)) (knots_before (drop (c.loop-before.before + 1) c.args.knots.now) c.args.station) (simp to_z-of_z at c.if-knot-station.false) in
    simp to_z-of_z (omega (arith, so_far, more, go))

pub returns : goal.returns
returns c =
    let station = c.ranges.station in
    let so_far = simp to_z-of_z at c.loop-before.invariant in
    omega (arith, so_far, knots_none c.args.station c.args.knots.now c.loop-before.before (omega arith))
