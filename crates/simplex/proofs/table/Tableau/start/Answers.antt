use Rattle.simplex.proofs.Starting.{not_in_range}
use Rattle.simplex.proofs.table.Tableau.start.Goals as goal

pub returns-in-Err-clause-in_range : goal.returns-in-Err-clause-in_range
returns-in-Err-clause-in_range g c =
    let wide = rw c.in-Err.is at c.in_ok-tableau.ensures.wide in
    (λ e. absurd (cc), λ all. absurd (not_in_range _ _ _ _ wide all))
