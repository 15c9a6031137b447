use Rattle.std.proofs.Common.{◌^◌, ◌<◌, refl, rules, ap, sym, ◌∙◌, subst}
use Rattle.std.specs.Prelude.{ℕ, unsigned_abs}
use Rattle.wide_products.specs.Naturals.{natural_of}
use Rattle.wide_products.proofs.SignsLemmas.{abs_signed, signed_product}
use Rattle.wide_products.proofs.wide.Wide.times.Goals as goal
use mathlib.Core.Bool.{not, beq}

pub returns-in-Some-clause-some : goal.returns-in-Some-clause-some
returns-in-Some-clause-some c =
    let e = signed_product c.args.self.negative c.args.other.negative _ _ (natural_of c.in-Some.magnitude) c.in-Some.ensures.value in
    let f = abs_signed (not (beq c.args.self.negative c.args.other.negative)) (natural_of c.in-Some.magnitude) in
    let q : natural_of c.in-Some.magnitude < 2 ^ 256 = search rules in
    let P : ℕ → Type 0 = λ x. x < 2 ^ 256 in
    (λ _. subst P (sym f ∙ ap unsigned_abs e) q, λ _. refl)

pub returns-in-Some-clause-value : goal.returns-in-Some-clause-value
returns-in-Some-clause-value c =
    signed_product c.args.self.negative c.args.other.negative _ _ _ c.in-Some.ensures.value
