use Rattle.std.proofs.Common.{sym, ◌∙◌, subst}
use Rattle.programs.specs.Programs.{Program}
use Rattle.tableau.specs.Trails.{IsAfter}
use Rattle.simplex.specs.Ends.{IsEnd}
use Rattle.simplex.specs.Givens.{given_of}
use Rattle.simplex.specs.States.{tableau_of}
use Rattle.simplex.proofs.solving.solve.Goals as goal

pub returns-in-Ok-clause-end : goal.returns-in-Ok-clause-end
returns-in-Ok-clause-end g c =
    let program = rw c.in-Ok.is at c.in_ok-tableau.ensures.program in
    let after = subst (λ (p : Program). IsAfter (given_of p) c.run-choice.new.trail.items (tableau_of g.W.Whole.meaning c.run-choice.new.tableau)) (sym c.run-choice.ensures.program) c.run-choice.ensures.trail in
    subst (λ (p : Program). IsEnd g.W.Whole.greatest p c.args.budget c.end-end.result) (c.run-choice.ensures.program ∙ program)
    (c.end-end.ensures.end c.args.budget (record { within = c.run-choice.ensures.budget; after = after }) c.run-choice.ensures.spent)

pub returns-in-Err-clause-end : goal.returns-in-Err-clause-end
returns-in-Err-clause-end g c =
    c.end_at_start.ensures.end g.W.Whole.greatest c.args.lp.now.milp.now c.args.budget (sym c.rows-rows.ensures.count) (rw c.in-Err.is at c.in_ok-tableau.ensures.wide)

pub returns-in-Err-clause-within : goal.returns-in-Err-clause-within
returns-in-Err-clause-within g c = c.end_at_start.ensures.within g.W.Whole.greatest

pub returns-in-Err-clause-at_start : goal.returns-in-Err-clause-at_start
returns-in-Err-clause-at_start g c = λ _. c.end_at_start.ensures.at_start g.W.Whole.greatest c.args.lp.now.milp.now (rw c.in-Err.is at c.in_ok-tableau.ensures.wide)
