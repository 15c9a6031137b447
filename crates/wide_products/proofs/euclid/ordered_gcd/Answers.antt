use Rattle.std.proofs.Common.{◌≡◌, rules, subst, sym}
use Rattle.std.specs.Int.{IsGcd}
use Rattle.std.proofs.lemmas.Nat.Gcd.{IsGcd-swap}
use Rattle.wide_products.specs.Naturals.{natural_of}
use Rattle.wide_products.proofs.NaturalsLemmas.{gcd_step}
use Rattle.wide_products.proofs.euclid.ordered_gcd.Goals as goal

pub loop-y-preserved-then-is_less : goal.loop-y-preserved-then-is_less
loop-y-preserved-then-is_less c = record {
  same = λ g h. c.loop-y.invariant.same g (gcd_step c.reduced.result.0 _ _ _ g (sym c.reduced.ensures.whole) h);
  ordered = search rules;
}

pub loop-y-preserved : goal.loop-y-preserved
loop-y-preserved c = record {
  same = λ g h. c.loop-y.invariant.same g (gcd_step c.reduced.result.0 _ _ _ g (sym c.reduced.ensures.whole) (IsGcd-swap _ _ g h));
  ordered = search rules;
}

pub returns : goal.returns
returns c =
    let e : c.loop-y.y.low ≡ natural_of c.loop-y.y = search rules in
    c.loop-y.invariant.same _ (subst (λ n. IsGcd (natural_of c.loop-y.x) n (natural_of c.half_gcd.result)) e c.half_gcd.ensures)
