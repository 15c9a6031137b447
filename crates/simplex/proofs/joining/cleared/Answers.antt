use Rattle.std.proofs.Common.{sym, ◌∙◌, subst}
use Rattle.std.specs.Prelude.{ℤ, pos, ◌≢◌, ◌*ℤ◌}
use Rattle.numbers.specs.Divisors.{Divides}
use Rattle.sparse_rows.proofs.Tests.{beyond}
use Rattle.simplex.proofs.Denominators.{part_divides, numerator_by, numerator_wide}
use Rattle.simplex.proofs.joining.cleared.Goals as goal

pub exact_part-factor-requires-clause-divides : goal.exact_part-factor-requires-clause-divides
exact_part-factor-requires-clause-divides g c =
    let some : g.T.Whole.meaning c.widened-wide.result ≢ pos 0 = λ z. c.requires.nonzero (sym c.widened-wide.ensures ∙ z) in
    part_divides (g.T.Whole.meaning c.widened-wide.result) (g.T.Whole.meaning c.args.rest) (g.T.Whole.meaning c.gcd-divisor.result) (g.T.Whole.meaning c.exact_part-part.result) c.gcd-divisor.ensures some c.exact_part-part.ensures (g.T.Whole.meaning c.args.den)
    (subst (λ (p : ℤ). Divides p (g.T.Whole.meaning c.args.den *ℤ g.T.Whole.meaning c.args.rest)) (sym c.widened-wide.ensures) c.requires.clears)

pub returns-in_default-clause-none : goal.returns-in_default-clause-none
returns-in_default-clause-none g c = λ x zero_sum.
    numerator_wide g.T.Whole.greatest (g.T.Whole.meaning c.widened-wide.result) (g.W.Whole.meaning c.args.pivot) (g.T.Whole.meaning c.exact_part-part.result) (g.T.Whole.meaning c.gcd-divisor.result) (g.T.Whole.meaning c.args.rest) (g.T.Whole.meaning c.exact_part.result) (g.T.Whole.meaning c.args.den) (g.T.Whole.meaning c.exact_part-factor.result) x c.widened-wide.ensures c.requires.nonzero c.exact_part-part.ensures c.exact_part.ensures c.exact_part-factor.ensures (beyond _ _ c.in_default.ensures.some.1) zero_sum

pub returns-clause-some : goal.returns-clause-some
returns-clause-some g c =
    numerator_by (g.T.Whole.meaning c.widened-wide.result) (g.W.Whole.meaning c.args.pivot) (g.T.Whole.meaning c.exact_part-part.result) (g.T.Whole.meaning c.gcd-divisor.result) (g.T.Whole.meaning c.args.rest) (g.T.Whole.meaning c.exact_part.result) (g.T.Whole.meaning c.args.den) (g.T.Whole.meaning c.exact_part-factor.result) _ _ c.widened-wide.ensures c.exact_part-part.ensures c.exact_part.ensures c.exact_part-factor.ensures c.in-Some.ensures.value c.negated.ensures
