use Rattle.std.proofs.Common.{◌+◌, ◌≤◌, ◌<◌, ◌^◌, ◌-◌, ℕ, [], ◌∷◌, length, length-append, arith, ap, sym, ◌∙◌, subst, rules}
use Rattle.std.specs.Prelude.{ℤ, FitsSigned, unsigned_abs}
use Rattle.std.specs.Int.{w128}
use Rattle.std.proofs.lemmas.Int.{to_z-of_z}
use Rattle.programs.specs.Programs.{column_count, row_count}
use Rattle.wide_products.specs.Naturals.{whole_of}
use Rattle.tableau.specs.Operations.{IsOutOfRange}
use Rattle.tableau.specs.declared.op.Op.TheVariants.{Join}
use Rattle.sparse_rows.proofs.Tests.{beyond}
use Rattle.simplex.specs.States.{tableau_of}
use Rattle.simplex.proofs.Breaks.{out_weaker}
use Rattle.simplex.proofs.Bridges.{numbered_more}
use Rattle.simplex.proofs.Denominators.{wide_coordinate}
use Rattle.simplex.proofs.table.Tableau.fill_point.Goals as goal

pub loop-k-preserved : goal.loop-k-preserved
loop-k-preserved g c =
    let fits : FitsSigned w128 c.in-Some.number = search rules in
    let items = simp to_z-of_z at c.push_reserved.ensures.items in
    let added = ap length items ∙ length-append c.loop-k.point.items (c.in-Some.number ∷ []) in (
      c.push_reserved.ensures.capacity ∙ c.loop-k.invariant.0,
      (
        (let e = c.loop-k.invariant.1.0 in omega arith),
        λ x point. numbered_more c.loop-k.point.items c.push_reserved.new.self.items c.in-Some.number x c.loop-k.k c.loop-k.invariant.1.0 items (c.loop-k.invariant.1.1 x point)
            (c.in-Ok.ensures.value x point ∙ sym c.in-Some.ensures.value),
      ),
    )

pub returns-in-None-clause-wide : goal.returns-in-None-clause-wide
returns-in-None-clause-wide g c =
    let law = g.met.W.Narrow.below_wide in
    let within : c.loop-k.k + 1 ≤ column_count c.args.self.now.program = (let a = c.loop-k-test.true in let b = c.columns-columns.ensures in omega arith) in
    let over : 2 ^ 127 - 1 < unsigned_abs (whole_of c.in-Ok.coordinate.value) = beyond _ _ (λ l. c.in-None.ensures.some.1 (omega arith)) in
    subst (λ (n : ℕ). IsOutOfRange g.W.Whole.greatest (tableau_of g.W.Whole.meaning c.args.self.now) (Join n)) (sym c.rows-rows.ensures.count)
    (out_weaker g.W.Whole.greatest (2 ^ 127 - 1) (tableau_of g.W.Whole.meaning c.args.self.now) (Join (row_count c.args.self.now.program)) (omega (arith, law))
    (wide_coordinate (tableau_of g.W.Whole.meaning c.args.self.now) (2 ^ 127 - 1) (whole_of c.args.den.value) (c.loop-k.k + 1) c.rows-rows.ensures.laws.laws c.requires.optimal c.requires.least (omega arith) within
    (λ x point. subst (λ (y : ℤ). 2 ^ 127 - 1 < unsigned_abs y) (sym (c.in-Ok.ensures.value x point)) over)))

pub returns-clause-coordinates : goal.returns-clause-coordinates
returns-clause-coordinates g c = λ x point j first last.
    c.loop-k.invariant.1.1 x point j first (let a = c.loop-k-test.false in let b = c.columns-columns.ensures in let d = c.loop-k.auto.k-end in omega arith)
