use Rattle.std.proofs.Common.{ℕ, sym, subst}
use Rattle.std.specs.Int.{IsGcd}
use Rattle.wide_products.specs.Naturals.{natural_of}
use Rattle.wide_products.proofs.NaturalsLemmas.{gcd_step}
use Rattle.wide_products.proofs.euclid.half_gcd.Goals as goal

pub returns : goal.returns
returns c =
    let P : ℕ → Type 0 = λ g. IsGcd (natural_of c.args.a) c.args.b g in
    subst P (sym c.low_half.ensures) (gcd_step c.remainder.ensures.whole.0 (natural_of c.args.a) c.args.b c.remainder.result _ c.remainder.ensures.whole.1 c.magnitude_gcd.ensures.greatest)
