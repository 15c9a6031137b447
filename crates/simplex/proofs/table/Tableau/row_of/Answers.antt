use Rattle.std.proofs.Common.{◌≡◌, arith, ap}
use Rattle.programs.specs.Programs.{column_count}
use Rattle.simplex.specs.States.{State}
use Rattle.simplex.proofs.table.Tableau.row_of.Goals as goal

pub overflow_cast-column : goal.overflow_cast-column
overflow_cast-column g c =
    let same : column_count c.self.inside.milp.now ≡ column_count c.args.self.now.program = ap (λ (s : State g.row.W.Denot). column_count s.program) c.self.view_is in
    let last = c.requires in
    let size = c.self.invariant.reached.shape.low in
    let few = c.self.invariant.reached.shape.few in
    omega arith
