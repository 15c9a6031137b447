use Rattle.std.proofs.Common.{◌≡◌, ◌-◌, ◌≤◌, drop}
use Rattle.road_types.specs.RecordFaults.{rises}
use Rattle.road_types.proofs.check.order.rises.Given as goal

abbrev pub invariant-loop-i : goal.invariant-loop-i
invariant-loop-i l = (1 ≤ l.i) × (rises (drop (l.i - 1) l.xs) ≡ rises l.xs)
