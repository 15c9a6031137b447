use Rattle.std.proofs.Common.{ℕ}
use Rattle.road_types.specs.Numbered.{IsNumber}
use Rattle.milp_builder.specs.inside.ShownPlans.{IsOpenedWhole}
use Rattle.milp_builder.proofs.showing.part_removal.Given as goal

abbrev pub invariant-loop-before : goal.invariant-loop-before
invariant-loop-before l = (k : ℕ) → IsNumber k l.before → IsOpenedWhole l.road l.den l.point k
