use Rattle.std.proofs.Common.{◌≡◌}
use Rattle.worked_certs.proofs.nodes.tell.Given as goal

abbrev pub invariant-loop-turn : goal.invariant-loop-turn
invariant-loop-turn l = (l.reader.rows ≡ l.rows) × (l.leaf.room ≡ l.rows)
