use Rattle.std.proofs.Common.{to_z, of_z}
use Rattle.std.specs.Int.{w128}
use Rattle.programs.specs.Points.{IsInBoundsAt}
use Rattle.milp_builder.proofs.ShownLemmas.{numbers_more}
use Rattle.rows_of.proofs.points.is_in_bounds.Goals as goal

pub loop-before-preserved : goal.loop-before-preserved
loop-before-preserved c =
    numbers_more (λ j. IsInBoundsAt c.args.milp.now (to_z w128 (of_z w128 c.args.den)) c.args.point.now j) c.loop-before.before
    c.loop-before.invariant (c.is_in_bounds_at.ensures c.if-not-is_in_bounds_at.false)
