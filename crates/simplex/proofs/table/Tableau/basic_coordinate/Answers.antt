use Rattle.std.proofs.Common.{◌^◌, ◌-◌, ℕ, arith, sym, subst}
use Rattle.programs.specs.Programs.{row_count}
use Rattle.wide_products.specs.Naturals.{whole_of}
use Rattle.tableau.specs.Operations.{IsOutOfRange}
use Rattle.tableau.specs.declared.op.Op.TheVariants.{Join}
use Rattle.simplex.specs.States.{tableau_of}
use Rattle.simplex.proofs.Breaks.{out_weaker}
use Rattle.simplex.proofs.Denominators.{clears_at, basic_is, basic_wide}
use Rattle.simplex.proofs.table.Tableau.basic_coordinate.Goals as goal

pub cleared-requires-clause-clears : goal.cleared-requires-clause-clears
cleared-requires-clause-clears g c =
    clears_at (tableau_of g.W.Whole.meaning c.args.self.now) c.args.row _ _ _ c.pivot.ensures.value c.in-Ok.ensures.sum (c.requires.least.clears c.args.row c.requires.row.0 c.requires.row.1)

pub returns-in-Some-clause-value : goal.returns-in-Some-clause-value
returns-in-Some-clause-value g c = λ x point.
    basic_is (tableau_of g.W.Whole.meaning c.args.self.now) c.args.row _ _ _ _ x c.rows-rows.ensures.laws.laws c.requires.row c.pivot.ensures.value c.in-Ok.ensures.sum c.in-Some.ensures.some point

pub returns-in-None-clause-wide : goal.returns-in-None-clause-wide
returns-in-None-clause-wide g c =
    let law = g.met.W.Narrow.below_wide in
    let t = tableau_of g.W.Whole.meaning c.args.self.now in
    subst (λ (n : ℕ). IsOutOfRange g.W.Whole.greatest (tableau_of g.W.Whole.meaning c.args.self.now) (Join n)) (sym c.rows-rows.ensures.count)
    (out_weaker g.W.Whole.greatest (2 ^ 255 - 1) (tableau_of g.W.Whole.meaning c.args.self.now) (Join (row_count c.args.self.now.program)) (omega (arith, law))
    (basic_wide (tableau_of g.W.Whole.meaning c.args.self.now) (2 ^ 255 - 1) c.args.row (whole_of c.args.den.value) _ _ c.rows-rows.ensures.laws.laws c.requires.optimal c.requires.least c.requires.row c.requires.structural
    c.pivot.ensures.value c.in-Ok.ensures.sum c.in-None.ensures.none))
