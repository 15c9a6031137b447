use Rattle.std.proofs.Common.{ℕ, ◌+◌, ◌≤◌}
use Rattle.std.specs.Int.{IsGcd}
use Rattle.wide_products.specs.Naturals.{natural_of}
use Rattle.wide_products.proofs.euclid.ordered_gcd.Given as goal

abbrev pub invariant-loop-y : goal.invariant-loop-y
invariant-loop-y l =
    record { same : (g : ℕ) → IsGcd (natural_of l.x) (natural_of l.y) g → IsGcd (natural_of l.fn.a) (natural_of l.fn.b) g; ordered : natural_of l.y ≤ natural_of l.x }

abbrev pub decreases-loop-y : goal.decreases-loop-y
decreases-loop-y l = natural_of l.x + natural_of l.y
