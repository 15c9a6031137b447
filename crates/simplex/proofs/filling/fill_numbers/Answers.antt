use Rattle.std.proofs.Common.{ℕ, ◌-◌, ap, sym, ◌∙◌, subst}
use Rattle.tableau.specs.Operations.{IsWideNumber}
use Rattle.simplex.specs.Givens.{given_of}
use Rattle.simplex.proofs.Fills.{wide_row}
use Rattle.simplex.proofs.filling.fill_numbers.Goals as goal

pub returns-clause-wide : goal.returns-clause-wide
returns-clause-wide g c =
    let row = c.row_of_bound.ensures ∙ ap (λ n. c.in-Err.column - n) c.columns-columns.ensures.count in
    subst (λ (i : ℕ). IsWideNumber g.W.Whole.greatest (given_of c.args.milp.now) i c.in-Err.column) (sym row) c.in-Err.ensures.wide

pub returns-clause-row : goal.returns-clause-row
returns-clause-row g c = wide_row g.W.Whole.greatest (given_of c.args.milp.now) c.row_of_bound.result c.in-Err.column (returns-clause-wide g c)
