use Rattle.std.proofs.Common.{◌≡◌, ◌+◌, ◌*◌}
use Rattle.wide_products.specs.Naturals.{natural_of}
use Rattle.wide_products.proofs.dividing.short_quotient.Given as goal

abbrev pub invariant-loop-divisor : goal.invariant-loop-divisor
invariant-loop-divisor l = l.quotient * natural_of l.divisor + natural_of l.rest ≡ natural_of l.fn.v

abbrev pub decreases-loop-divisor : goal.decreases-loop-divisor
decreases-loop-divisor l = natural_of l.rest
