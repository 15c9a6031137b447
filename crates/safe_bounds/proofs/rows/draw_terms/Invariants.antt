use Rattle.std.proofs.Common.{ℕ, ◌+◌, ◌*◌, ◌^◌, take}
use Rattle.safe_bounds.specs.inside.Drawn.{AreAtMost, HaveDrawn}
use Rattle.safe_bounds.proofs.rows.draw_terms.Given as goal

abbrev pub invariant-loop-term : goal.invariant-loop-term
invariant-loop-term l =
    HaveDrawn l.initial.drawn l.mult (take l.term-index l.terms) l.drawn
    × ((k : ℕ) → AreAtMost k l.initial.drawn → AreAtMost (k + l.term-index * 2 ^ 103) l.drawn)
