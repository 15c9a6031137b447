use Rattle.std.proofs.Common.{◌≡◌, ◌++◌, take}
use Rattle.worked_values.proofs.rows.push_all.Given as goal

abbrev pub invariant-loop-term : goal.invariant-loop-term
invariant-loop-term l =
    (l.view.terms ≡ l.fn.view.terms ++ take l.term-index l.terms) × (l.view.room ≡ l.fn.view.room)
