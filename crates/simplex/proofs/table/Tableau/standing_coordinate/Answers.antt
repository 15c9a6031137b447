use Rattle.std.proofs.Common.{◌<◌, ◌^◌, ◌-◌, ℕ, arith, ap, sym, ◌∙◌, subst}
use Rattle.std.specs.Prelude.{ℤ, ◌*ℤ◌, unsigned_abs}
use Rattle.programs.specs.Programs.{row_count}
use Rattle.wide_products.specs.Naturals.{whole_of}
use Rattle.tableau.specs.Operations.{IsOutOfRange}
use Rattle.tableau.specs.declared.op.Op.TheVariants.{Join}
use Rattle.sparse_rows.proofs.Tests.{beyond}
use Rattle.simplex.specs.States.{tableau_of}
use Rattle.simplex.proofs.Breaks.{out_weaker}
use Rattle.simplex.proofs.Denominators.{wide_coordinate}
use Rattle.simplex.proofs.table.Tableau.standing_coordinate.Goals as goal

pub returns-in-None-clause-wide : goal.returns-in-None-clause-wide
returns-in-None-clause-wide g c =
    let law = g.met.W.Narrow.below_wide in
    let bound = c.widened.ensures ∙ c.bound_of.ensures in
    let over = beyond _ _ c.in-None.ensures.some.1 in
    subst (λ (n : ℕ). IsOutOfRange g.W.Whole.greatest (tableau_of g.W.Whole.meaning c.args.self.now) (Join n)) (sym c.rows-rows.ensures.count)
    (out_weaker g.W.Whole.greatest (2 ^ 255 - 1) (tableau_of g.W.Whole.meaning c.args.self.now) (Join (row_count c.args.self.now.program)) (omega (arith, law))
    (wide_coordinate (tableau_of g.W.Whole.meaning c.args.self.now) (2 ^ 255 - 1) (whole_of c.args.den.value) c.args.column c.rows-rows.ensures.laws.laws c.requires.optimal c.requires.least c.requires.first c.requires.last
    (λ x point. subst (λ (z : ℤ). 2 ^ 255 - 1 < unsigned_abs z)
    (sym (point.nonbasic c.args.column (c.requires.first, omega arith) c.requires.nonbasic ∙ ap (λ (z : ℤ). whole_of c.args.den.value *ℤ z) (sym bound))) over)))

pub returns-in-Some-clause-value : goal.returns-in-Some-clause-value
returns-in-Some-clause-value g c = λ x point.
    point.nonbasic c.args.column (c.requires.first, (let l = c.requires.last in omega arith)) c.requires.nonbasic
    ∙ (ap (λ (z : ℤ). whole_of c.args.den.value *ℤ z) (sym (c.widened.ensures ∙ c.bound_of.ensures)) ∙ sym c.in-Some.ensures.value)
