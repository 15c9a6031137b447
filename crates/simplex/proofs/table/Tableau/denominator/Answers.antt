use Rattle.std.proofs.Common.{◌≡◌, ◌+◌, ◌^◌, ◌-◌, ℕ, arith, subst}
use Rattle.programs.specs.Programs.{row_count}
use Rattle.wide_products.specs.Naturals.{whole_of}
use Rattle.tableau.specs.Ends.{IsLeastDenominator}
use Rattle.tableau.specs.declared.op.Op.TheVariants.{Join}
use Rattle.simplex.specs.States.{tableau_of}
use Rattle.simplex.proofs.Breaks.{out_weaker}
use Rattle.simplex.proofs.Denominators.{denominator_none, denominator_more, joined_at, wide_join}
use Rattle.simplex.proofs.table.Tableau.denominator.Goals as goal

pub loop-k-init : goal.loop-k-init
loop-k-init g c = denominator_none (tableau_of g.W.Whole.meaning c.args.self.now) _ c.one-den.ensures

pub loop-k-preserved : goal.loop-k-preserved
loop-k-preserved g c =
    denominator_more (tableau_of g.W.Whole.meaning c.args.self.now) c.loop-k.k _ _ c.loop-k.invariant
    (joined_at (tableau_of g.W.Whole.meaning c.args.self.now) c.loop-k.k _ _ _ _ c.pivot.ensures.value c.in-Ok.ensures.sum c.in-Some.ensures.some)

pub returns-in-None-clause-wide : goal.returns-in-None-clause-wide
returns-in-None-clause-wide g c =
    let law = g.met.W.Narrow.below_wide in
    let none = c.in-None.ensures.none in
    out_weaker g.W.Whole.greatest (2 ^ 255 - 1) (tableau_of g.W.Whole.meaning c.args.self.now) (Join (c.loop-k.k + 1)) (omega (arith, law))
    (wide_join (tableau_of g.W.Whole.meaning c.args.self.now) (2 ^ 255 - 1) c.loop-k.k _ none.0 c.requires (omega arith) c.loop-k.invariant
    (joined_at (tableau_of g.W.Whole.meaning c.args.self.now) c.loop-k.k _ _ _ _ c.pivot.ensures.value c.in-Ok.ensures.sum none.1) none.2)

pub returns-clause-least : goal.returns-clause-least
returns-clause-least g c =
    let e : c.loop-k.k ≡ row_count c.args.self.now.program = (let a = c.loop-k-test.false in let b = c.rows-rows.ensures.count in let d = c.loop-k.auto.k-end in omega arith) in
    subst (λ (n : ℕ). IsLeastDenominator (tableau_of g.W.Whole.meaning c.args.self.now) n (whole_of c.loop-k.den.value)) e c.loop-k.invariant
