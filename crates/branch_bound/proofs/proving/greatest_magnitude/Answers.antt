use Rattle.std.proofs.Common.{rules, FitsSigned, ◌+◌, to_z, sym, subst, ◌≡◌, pos, get_or}
use Rattle.std.specs.Prelude.{ℤ, unsigned_abs}
use Rattle.std.specs.Int.{w128, int_max}
use Rattle.std.proofs.lemmas.Int.{to_z-of_z}
use Rattle.branch_bound.specs.inside.Proving.{IsGreatestOf}
use Rattle.branch_bound.proofs.ProvingLemmas.{greatest_more}
use Rattle.branch_bound.proofs.proving.greatest_magnitude.Goals as goal

pub loop-before-preserved : goal.loop-before-preserved
loop-before-preserved c =
    let numbers = c.args.numbers.now in
    let i = c.loop-before.before in
    let fits : FitsSigned w128 c.raised-greatest.result = search rules in
    let here : FitsSigned w128 (get_or numbers i (pos 0)) = search rules in
    let value : c.raised-greatest.result ≡ int_max (to_z w128 c.loop-before.greatest-bits) (pos (unsigned_abs (get_or numbers i (pos 0)))) = simp to_z-of_z at c.raised-greatest.ensures in
    simp to_z-of_z
    (subst (λ (z : ℤ). IsGreatestOf numbers (i + 1) z) (sym value)
    (greatest_more numbers i (to_z w128 c.loop-before.greatest-bits) c.loop-before-test.true c.loop-before.invariant))
