use Rattle.std.proofs.Common.{◌<◌, ◌^◌, ◌-◌, ℕ, arith, sym, subst, rules}
use Rattle.std.specs.Prelude.{ℤ, FitsSigned, unsigned_abs}
use Rattle.std.specs.Int.{w128}
use Rattle.std.proofs.lemmas.Int.{to_z-of_z}
use Rattle.programs.specs.Programs.{row_count}
use Rattle.wide_products.specs.Naturals.{whole_of}
use Rattle.tableau.specs.Operations.{IsOutOfRange}
use Rattle.tableau.specs.declared.op.Op.TheVariants.{Join}
use Rattle.sparse_rows.proofs.Tests.{beyond}
use Rattle.simplex.specs.States.{tableau_of}
use Rattle.simplex.specs.inside.OwnOptima.{IsOwnOptimum}
use Rattle.simplex.proofs.Breaks.{out_weaker}
use Rattle.simplex.proofs.Denominators.{wide_denominator}
use Rattle.simplex.proofs.Endings.{own_optimum}
use Rattle.simplex.proofs.table.Tableau.fill_optimum.Goals as goal

pub returns-in_default-clause-wide : goal.returns-in_default-clause-wide
returns-in_default-clause-wide g c =
    let law = g.met.W.Narrow.below_wide in
    let over : 2 ^ 127 - 1 < unsigned_abs (whole_of c.in-Ok.den.value) = beyond _ _ (λ l. c.in_default.ensures.some.1 (omega arith)) in
    subst (λ (n : ℕ). IsOutOfRange g.W.Whole.greatest (tableau_of g.W.Whole.meaning c.args.self.now) (Join n)) (sym c.rows-rows.ensures.count)
    (out_weaker g.W.Whole.greatest (2 ^ 127 - 1) (tableau_of g.W.Whole.meaning c.args.self.now) (Join (row_count c.args.self.now.program)) (omega (arith, law))
    (wide_denominator (tableau_of g.W.Whole.meaning c.args.self.now) (2 ^ 127 - 1) (whole_of c.in-Ok.den.value) c.requires.optimal c.in-Ok.ensures.least over))

pub returns-in-Ok-fill_point-clause-optimum : goal.returns-in-Ok-fill_point-clause-optimum
returns-in-Ok-fill_point-clause-optimum g c =
    let fits : FitsSigned w128 c.in-Some.number = search rules in
    simp to_z-of_z
    (subst (λ (z : ℤ). IsOwnOptimum c.args.self.now.program (tableau_of g.W.Whole.meaning c.args.self.now) z c.fill_point.new.point.items) (sym c.in-Some.ensures.value)
    (own_optimum g.W.Whole.meaning c.args.self.now c.rows-rows.ensures.laws (whole_of c.in-Ok.den.value) c.fill_point.new.point.items c.requires.optimal c.in-Ok.ensures.least
    c.in-Ok-fill_point.ensures.count c.in-Ok-fill_point.ensures.coordinates))
