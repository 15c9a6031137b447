use Rattle.std.proofs.lemmas.Nat.Gcd.{IsGcd-from_zero, IsGcd-from_mod}
use Rattle.numbers.proofs.DivisorsLemmas.{IsGcd-from_one_left, IsGcd-from_one_right, IsGcd-le_max}
use Rattle.numbers.proofs.divisors.magnitude_gcd.Goals as goal

pub returns-then-a-eq1-clause-greatest : goal.returns-then-a-eq1-clause-greatest
returns-then-a-eq1-clause-greatest c = IsGcd-from_one_left c.args.a c.args.b c.if-a-eq1.true

pub loop-y-preserved : goal.loop-y-preserved
loop-y-preserved c g h = c.loop-y.invariant g (IsGcd-from_mod _ _ g h)

pub returns-then-y-eq0-clause-greatest : goal.returns-then-y-eq0-clause-greatest
returns-then-y-eq0-clause-greatest c = c.loop-y.invariant _ (IsGcd-from_zero _ _ c.if-y-eq0.true)

pub returns-then-y-eq1-clause-greatest : goal.returns-then-y-eq1-clause-greatest
returns-then-y-eq1-clause-greatest c = c.loop-y.invariant _ (IsGcd-from_one_right _ _ c.if-y-eq1.true)

pub returns-clause-greatest : goal.returns-clause-greatest
returns-clause-greatest c = c.loop-y.invariant _ (IsGcd-from_mod _ _ _ c.gcd_word-divisor.ensures.greatest)

pub returns-then-y-eq0-clause-within : goal.returns-then-y-eq0-clause-within
returns-then-y-eq0-clause-within c = IsGcd-le_max _ _ _ (returns-then-y-eq0-clause-greatest c)

pub returns-clause-within : goal.returns-clause-within
returns-clause-within c = IsGcd-le_max _ _ _ (returns-clause-greatest c)
