use Rattle.std.proofs.Common.{length, ◌-◌, ◌≡◌, ◌+◌, ◌≤◌}
use Rattle.worked_values.proofs.rows.add_into.Given as goal

abbrev pub invariant-loop-a : goal.invariant-loop-a
invariant-loop-a l =
    (length l.view.terms ≤ length l.fn.view.terms + (l.a + l.b))
    × ((l.view.room ≡ l.fn.view.room) × ((l.a ≤ length l.left) × (l.b ≤ length l.right)))

abbrev pub decreases-loop-a : goal.decreases-loop-a
decreases-loop-a l = (length l.left - l.a) + (length l.right - l.b)
