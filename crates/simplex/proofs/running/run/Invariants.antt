use Rattle.std.proofs.Common.{◌≡◌, ◌-◌, ◌≤◌, length}
use Rattle.std.specs.Prelude.{vec_capacity}
use Rattle.tableau.specs.Trails.{IsAfter}
use Rattle.simplex.specs.Givens.{given_of}
use Rattle.simplex.specs.States.{tableau_of}
use Rattle.simplex.proofs.running.run.Given as goal

abbrev pub invariant-loop-tableau : goal.invariant-loop-tableau
invariant-loop-tableau g l =
    IsAfter (given_of l.fn.tableau.program) l.trail.items (tableau_of g.W.Whole.meaning l.tableau)
    × ((l.tableau.program ≡ l.fn.tableau.program) × ((length l.trail.items ≤ l.budget) × (vec_capacity l.trail ≡ vec_capacity l.fn.trail)))

abbrev pub decreases-loop-tableau : goal.decreases-loop-tableau
decreases-loop-tableau g l = l.budget - length l.trail.items
