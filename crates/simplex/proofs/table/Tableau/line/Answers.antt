use Rattle.std.proofs.Common.{◌≡◌, ◌+◌, ◌<◌, [], get_or, arith, ap, sym, ◌∙◌, subst}
use Rattle.std.proofs.lemmas.List.{get_or-take}
use Rattle.programs.specs.Programs.{row_count}
use Rattle.simplex.specs.States.{State, KeepsLaws}
use Rattle.simplex.proofs.table.Tableau.line.Goals as goal

pub returns-clause-value : goal.returns-clause-value
returns-clause-value g c =
    let same_rows : row_count c.self.inside.milp.now ≡ row_count c.args.self.now.program = ap (λ (s : State g.row.W.Denot). row_count s.program) c.self.view_is in
    let in_front : c.args.row < row_count c.self.inside.milp.now + 1 = omega arith in
    let front = get_or-take (row_count c.self.inside.milp.now + 1) c.self.inside.lines.rows c.args.row [] in_front in
    c.row.ensures ∙ (sym front ∙ ap (λ (s : State g.row.W.Denot). get_or s.lines c.args.row []) c.self.view_is)

pub returns-clause-laws : goal.returns-clause-laws
returns-clause-laws g c = subst (λ (s : State g.row.W.Denot). KeepsLaws g.W.Whole.meaning s) c.self.view_is c.self.invariant.reached
