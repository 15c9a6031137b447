use Rattle.std.proofs.Common.{◌≡◌, ◌+◌, ◌-◌, pos, sym, ◌∙◌, arith}
use Rattle.std.specs.Prelude.{int_lt}
use Rattle.road_types.proofs.Neighbours.{all_neighbours-last, neighbours_fail, neighbours_go}
use Rattle.road_types.proofs.check.order.rises.Goals as goal

pub returns-then-not-is_less : goal.returns-then-not-is_less
returns-then-not-is_less c =
    neighbours_fail int_lt c.args.xs.now c.loop-i.i (c.loop-i.i - 1) (pos 0) (pos 0) (omega arith) (omega arith) c.loop-i.invariant.1 (cc)

pub loop-i-preserved : goal.loop-i-preserved
loop-i-preserved c =
    let e : c.loop-i.i + 1 - 1 ≡ c.loop-i.i = omega arith in
    let go = neighbours_go int_lt c.args.xs.now c.loop-i.i (c.loop-i.i - 1) (pos 0) (pos 0) (omega arith) (omega arith) c.loop-i.invariant.1 (cc) in
    (omega arith, rw e go)

pub returns : goal.returns
returns c =
    sym (all_neighbours-last int_lt c.args.xs.now (c.loop-i.i - 1) (omega arith)) ∙ c.loop-i.invariant.1
