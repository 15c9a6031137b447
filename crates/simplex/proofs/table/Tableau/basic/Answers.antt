use Rattle.std.proofs.Common.{ℕ, List, get_or, ap, ◌∙◌}
use Rattle.simplex.specs.States.{State}
use Rattle.simplex.proofs.table.Tableau.basic.Goals as goal

pub returns : goal.returns
returns g c =
    ap (λ (bs : List ℕ). get_or bs c.args.row 0) c.as_slice-basis.ensures.value
    ∙ ap (λ (s : State g.row.W.Denot). get_or s.basis c.args.row 0) c.self.view_is
