use Rattle.std.proofs.Common.{arith}
use Rattle.std.proofs.lemmas.Nat.Gcd.{IsGcd-from_zero, IsGcd-from_mod}
use Rattle.numbers.proofs.DivisorsLemmas.{IsGcd-from_one_left, IsGcd-from_one_right, IsGcd-le_max}
use Rattle.numbers.proofs.divisors.gcd_word.Goals as goal

pub returns-then-a-eq1-clause-greatest : goal.returns-then-a-eq1-clause-greatest
returns-then-a-eq1-clause-greatest c = IsGcd-from_one_left c.args.a c.args.b c.if-a-eq1.true

pub loop-y-preserved : goal.loop-y-preserved
loop-y-preserved c g h = c.loop-y.invariant g (IsGcd-from_mod _ _ g h)

pub returns-then-y-eq0-clause-greatest : goal.returns-then-y-eq0-clause-greatest
returns-then-y-eq0-clause-greatest c = c.loop-y.invariant _ (IsGcd-from_zero _ _ c.if-y-eq0.true)

pub returns-else-y-eq0-clause-greatest : goal.returns-else-y-eq0-clause-greatest
returns-else-y-eq0-clause-greatest c = c.loop-y.invariant _ (IsGcd-from_one_right _ _ (omega arith))

pub returns-then-y-eq0-clause-within : goal.returns-then-y-eq0-clause-within
returns-then-y-eq0-clause-within c = IsGcd-le_max _ _ _ (returns-then-y-eq0-clause-greatest c)
