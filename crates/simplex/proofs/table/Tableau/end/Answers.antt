use Rattle.std.proofs.Common.{rules}
use Rattle.std.specs.Prelude.{FitsSigned}
use Rattle.std.specs.Int.{w128}
use Rattle.std.proofs.lemmas.Int.{to_z-of_z}
use Rattle.simplex.specs.States.{tableau_of}
use Rattle.simplex.proofs.Endings.{wide_of}
use Rattle.simplex.proofs.table.Tableau.end.Goals as goal

pub returns-in-Optimal-clause-end : goal.returns-in-Optimal-clause-end
returns-in-Optimal-clause-end g c = λ budget reached stops.
    let fits : FitsSigned w128 c.own_numbers-scale.result = search rules in
    simp to_z-of_z (wide_of c.args.self.now.program (tableau_of g.W.Whole.meaning c.args.self.now) budget c.args.room.trail.items _ c.own_numbers-scale.new.mults.items reached c.own_numbers-scale.ensures.own
    g.W.Whole.greatest c.in-Err.op c.in-Err.ensures.wide)

pub returns-clause-end : goal.returns-clause-end
returns-clause-end g c = λ budget reached stops.
    let fits : FitsSigned w128 c.own_numbers-scale.result = search rules in
    simp to_z-of_z (wide_of c.args.self.now.program (tableau_of g.W.Whole.meaning c.args.self.now) budget c.args.room.trail.items _ c.own_numbers-scale.new.mults.items reached c.own_numbers-scale.ensures.own
    g.W.Whole.greatest c.in-Wide.op (rw c.in-Wide.is at c.requires.choice))
