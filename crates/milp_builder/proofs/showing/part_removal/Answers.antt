use Rattle.std.proofs.Common.{arith, subst}
use Rattle.std.specs.Prelude.{ℤ}
use Rattle.std.specs.Int.{w128}
use Rattle.std.proofs.lemmas.Int.{to_z-of_z}
use Rattle.road_types.specs.Numbered.{IsNumber}
use Rattle.road_points.specs.Shown.{IsWholeAt}
use Rattle.milp_builder.proofs.showing.part_removal.Goals as goal

pub returns : goal.returns
returns c = record {
  each = λ k t n low high.
      let m : IsNumber k c.loop-before.before = record { from_one = n.from_one; at_most = omega (arith, n.at_most, c.loop-before-test.false, c.len-before-end.ensures) } in
      subst (λ (d : ℤ). IsWholeAt c.args.road.now d c.args.point.now k t) (to_z-of_z w128 c.args.den c.ranges.den) ((c.loop-before.invariant k m).each t low high);
}
