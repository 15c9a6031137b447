use Rattle.std.proofs.Common.{◌≡◌, take}
use Rattle.term_store.proofs.row.Row.refill.Given as goal

abbrev pub invariant-loop-term : goal.invariant-loop-term
invariant-loop-term g l = (l.self.terms ≡ take l.term-index l.terms) × (l.self.room ≡ l.initial.self.room)
