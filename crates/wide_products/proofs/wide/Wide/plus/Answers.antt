use Rattle.std.proofs.Common.{◌^◌, ◌<◌, refl, rules, ap, sym, ◌∙◌, subst}
use Rattle.std.specs.Prelude.{ℕ, unsigned_abs}
use Rattle.wide_products.specs.Naturals.{natural_of}
use Rattle.wide_products.proofs.SignsLemmas.{abs_signed, signed_sum, opposite_within}
use Rattle.wide_products.proofs.wide.Wide.plus.Goals as goal

pub returns-then-self-other-clause-some : goal.returns-then-self-other-clause-some
returns-then-self-other-clause-some c =
    let p : natural_of c.args.self.magnitude < 2 ^ 256 = search rules in
    let q : natural_of c.args.other.magnitude < 2 ^ 256 = search rules in
    (λ _. opposite_within c.args.self.negative c.args.other.negative _ _ c.if-self-other.true p q, λ _. refl)

pub returns-in-Some-clause-some : goal.returns-in-Some-clause-some
returns-in-Some-clause-some c =
    let e = signed_sum c.args.self.negative c.args.other.negative _ _ (natural_of c.in-Some.magnitude) c.if-self-other.false c.in-Some.ensures.value in
    let f = abs_signed c.args.self.negative (natural_of c.in-Some.magnitude) in
    let q : natural_of c.in-Some.magnitude < 2 ^ 256 = search rules in
    let P : ℕ → Type 0 = λ x. x < 2 ^ 256 in
    (λ _. subst P (sym f ∙ ap unsigned_abs e) q, λ _. refl)

pub returns-in-Some-clause-value : goal.returns-in-Some-clause-value
returns-in-Some-clause-value c =
    signed_sum c.args.self.negative c.args.other.negative _ _ _ c.if-self-other.false c.in-Some.ensures.value
