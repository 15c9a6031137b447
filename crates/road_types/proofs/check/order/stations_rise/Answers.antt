use Rattle.std.proofs.Common.{◌≡◌, ◌+◌, ◌-◌, sym, ◌∙◌, arith}
use Rattle.road_types.specs.RecordFaults.{comes_before}
use Rattle.road_types.proofs.Neighbours.{all_neighbours-last, neighbours_fail, neighbours_go}
use Rattle.road_types.proofs.check.order.stations_rise.Goals as goal

pub returns-then-not-comes_before : goal.returns-then-not-comes_before
returns-then-not-comes_before c =
    neighbours_fail comes_before c.args.sections.now c.loop-i.i (c.loop-i.i - 1) c.index-sections-i.result c.index-sections-i-in-loop-i.result (omega arith) (omega arith) c.loop-i.invariant.1 (cc)

pub loop-i-preserved : goal.loop-i-preserved
loop-i-preserved c =
    let e : c.loop-i.i + 1 - 1 ≡ c.loop-i.i = omega arith in
    let go = neighbours_go comes_before c.args.sections.now c.loop-i.i (c.loop-i.i - 1) c.index-sections-i.result c.index-sections-i-in-loop-i.result (omega arith) (omega arith) c.loop-i.invariant.1 (cc) in
    (omega arith, rw e go)

pub returns : goal.returns
returns c =
    sym (all_neighbours-last comes_before c.args.sections.now (c.loop-i.i - 1) (omega arith)) ∙ c.loop-i.invariant.1
