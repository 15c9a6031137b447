use Rattle.std.proofs.Common.{[], ◌∷◌, length, arith, ap, ◌∙◌, length-append}
use Rattle.tableau.proofs.TrailsLemmas.{after_more}
use Rattle.sparse_rows.proofs.Tests.{told_false}
use Rattle.simplex.specs.Givens.{given_of}
use Rattle.simplex.specs.States.{tableau_of}
use Rattle.simplex.proofs.Denominators.{below_of_not}
use Rattle.simplex.proofs.running.run.Goals as goal

pub loop-tableau-preserved : goal.loop-tableau-preserved
loop-tableau-preserved g c =
    let more = after_more (given_of c.args.tableau.now.program) c.loop-tableau.trail.items (tableau_of g.W.Whole.meaning c.loop-tableau.tableau) c.in-Good.swap (tableau_of g.W.Whole.meaning c.exchange.new.self)
    c.loop-tableau.invariant.0 c.in-Good.ensures c.in-Ok.ensures.result in
    let short = below_of_not c.args.budget (length c.deref.result.now) (told_false c.is_spent.result c.loop-tableau-test.true c.is_spent.ensures) in
    let same = ap length c.deref.ensures.value in
    let f = ap length c.push_reserved.ensures.items in
    let l = length-append c.loop-tableau.trail.items (c.in-Good.swap ∷ []) in (
      rw c.push_reserved.ensures.items more,
      (
        c.exchange.ensures.program ∙ c.loop-tableau.invariant.1.0,
        (omega arith, c.push_reserved.ensures.capacity ∙ c.loop-tableau.invariant.1.1.1),
      ),
    )
