use Rattle.std.proofs.Common.{sym, ◌∙◌, subst, refl}
use Rattle.std.specs.Prelude.{ℤ, pos, ◌≢◌, ◌*ℤ◌}
use Rattle.simplex.specs.inside.Joins.{IsJoined}
use Rattle.simplex.proofs.Breaks.{some_weaker, none_case}
use Rattle.simplex.proofs.Denominators.{joined_by, below_of_not}
use Rattle.simplex.proofs.joining.joined.Goals as goal

pub returns-clause-some : goal.returns-clause-some
returns-clause-some g c =
    let some : g.T.Whole.meaning c.widened-wide.result ≢ pos 0 = λ z. c.requires.nonzero (sym c.widened-wide.ensures ∙ z) in
    some_weaker _ _ c.times.result
    (λ x e. subst (λ (p : ℤ). IsJoined (g.T.Whole.meaning c.args.den) p (g.T.Whole.meaning c.args.rest) (g.T.Whole.meaning x)) c.widened-wide.ensures
    (joined_by (g.T.Whole.meaning c.args.den) (g.T.Whole.meaning c.widened-wide.result) (g.T.Whole.meaning c.args.rest) (g.T.Whole.meaning c.gcd.result) (g.T.Whole.meaning c.exact_part.result) (g.T.Whole.meaning c.magnitude-part.result) (g.T.Whole.meaning c.gcd-2.result) (g.T.Whole.meaning c.exact_part-factor.result) (g.T.Whole.meaning x) c.requires.positive c.gcd.ensures some c.exact_part.ensures c.magnitude-part.ensures c.gcd-2.ensures c.exact_part-factor.ensures e))
    c.times.ensures.value

pub returns-clause-none : goal.returns-clause-none
returns-clause-none g c =
    let some : g.T.Whole.meaning c.widened-wide.result ≢ pos 0 = λ z. c.requires.nonzero (sym c.widened-wide.ensures ∙ z) in
    none_case _ _ c.times.result c.times.ensures.some
    (λ over. (
      g.T.Whole.meaning c.args.den *ℤ g.T.Whole.meaning c.exact_part-factor.result,
      subst (λ (p : ℤ). IsJoined (g.T.Whole.meaning c.args.den) p (g.T.Whole.meaning c.args.rest) (g.T.Whole.meaning c.args.den *ℤ g.T.Whole.meaning c.exact_part-factor.result)) c.widened-wide.ensures
          (joined_by (g.T.Whole.meaning c.args.den) (g.T.Whole.meaning c.widened-wide.result) (g.T.Whole.meaning c.args.rest) (g.T.Whole.meaning c.gcd.result) (g.T.Whole.meaning c.exact_part.result) (g.T.Whole.meaning c.magnitude-part.result) (g.T.Whole.meaning c.gcd-2.result) (g.T.Whole.meaning c.exact_part-factor.result) (g.T.Whole.meaning c.args.den *ℤ g.T.Whole.meaning c.exact_part-factor.result) c.requires.positive c.gcd.ensures some c.exact_part.ensures c.magnitude-part.ensures c.gcd-2.ensures c.exact_part-factor.ensures refl),
      below_of_not _ _ over,
    ))
