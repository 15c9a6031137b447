use Rattle.std.proofs.Common.{sym, ◌∙◌}
use Rattle.programs.proofs.RowsLemmas.{length-rows_of}
use Rattle.programs.proofs.milp.Milp.rows.Goals as goal

pub returns-clause-count : goal.returns-clause-count
returns-clause-count c =
    let e = length-rows_of c.self.inside.rows.rows c.self.inside.sides.items c.self.inside.rights.items c.self.invariant.0 c.self.invariant.1.0 in
    rw (← c.self.view_is) (c.count.ensures ∙ sym e)
