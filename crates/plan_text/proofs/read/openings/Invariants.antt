use Rattle.std.proofs.Common.{◌≡◌, map, take, unsigned_abs}
use Rattle.plan_text.proofs.read.openings.Given as goal

abbrev pub invariant-loop-number : goal.invariant-loop-number
invariant-loop-number l = l.opens.items ≡ map unsigned_abs (take l.number-index l.number-items)
