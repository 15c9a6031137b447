use Rattle.std.proofs.Common.{sym, subst, rules}
use Rattle.std.specs.Prelude.{ℤ, FitsSigned}
use Rattle.std.specs.Int.{w128}
use Rattle.std.proofs.lemmas.Int.{to_z-of_z}
use Rattle.numbers.specs.Divisors.{Divides}
use Rattle.sparse_rows.proofs.dividing.word_part.Goals as goal

pub narrow_part-requires-clause-divides : goal.narrow_part-requires-clause-divides
narrow_part-requires-clause-divides g c =
    let value : FitsSigned w128 c.in_ok-narrow.field-0 = search rules in
    let divisor : FitsSigned w128 c.in_ok-narrow-2.field-0 = search rules in
    simp to_z-of_z
    (subst (λ (z : ℤ). Divides z c.in_ok-narrow.field-0) (sym c.in_ok-narrow-2.ensures.value)
    (subst (λ (z : ℤ). Divides (g.T.Whole.meaning c.args.divisor) z) (sym c.in_ok-narrow.ensures.value) c.requires.divides))
