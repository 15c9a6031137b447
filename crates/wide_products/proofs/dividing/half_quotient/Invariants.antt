use Rattle.std.proofs.Common.{◌≡◌, ◌+◌, ◌*◌}
use Rattle.wide_products.specs.Naturals.{natural_of}
use Rattle.wide_products.proofs.dividing.half_quotient.Given as goal

abbrev pub invariant-loop-quotient : goal.invariant-loop-quotient
invariant-loop-quotient l = natural_of l.product ≡ l.quotient * l.divisor

abbrev pub decreases-loop-quotient : goal.decreases-loop-quotient
decreases-loop-quotient l = l.quotient

abbrev pub invariant-loop-by : goal.invariant-loop-by
invariant-loop-by l = l.quotient * l.divisor + natural_of l.rest ≡ natural_of l.fn.v

abbrev pub decreases-loop-by : goal.decreases-loop-by
decreases-loop-by l = natural_of l.rest
