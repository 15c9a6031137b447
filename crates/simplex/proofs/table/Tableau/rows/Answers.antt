use Rattle.std.proofs.Common.{subst}
use Rattle.simplex.specs.States.{State, KeepsLaws}
use Rattle.simplex.proofs.table.Tableau.rows.Goals as goal

pub returns-clause-laws : goal.returns-clause-laws
returns-clause-laws g c = subst (λ (s : State g.row.W.Denot). KeepsLaws g.W.Whole.meaning s) c.self.view_is c.self.invariant.reached
