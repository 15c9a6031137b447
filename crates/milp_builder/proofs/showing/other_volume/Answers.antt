use Rattle.std.proofs.Common.{◌≡◌, arith, ◌+◌, subst, sym, to_z, of_z, true}
use Rattle.std.specs.Prelude.{ℤ}
use Rattle.std.specs.Int.{w128}
use Rattle.std.proofs.lemmas.Int.{to_z-of_z}
use Rattle.road_types.specs.Numbered.{IsNumber}
use Rattle.road_points.specs.Shown.{IsExactAt}
use Rattle.milp_builder.proofs.ShownLemmas.{numbers_more}
use Rattle.milp_builder.proofs.showing.other_volume.Goals as goal

pub returns-then-not-is_exact_at : goal.returns-then-not-is_exact_at
returns-then-not-is_exact_at c =
    let bits = to_z-of_z w128 c.args.den c.ranges.den in
    let n = c.loop-before.before in
    record {
      number = record { from_one = omega arith; at_most = omega (arith, c.loop-before-test.true, c.len-before-end.ensures) };
      not_exact = λ e.
          let exact = subst (λ (d : ℤ). IsExactAt c.args.road.now d c.args.point.now (n + 1)) (sym bits) e in
          let r : c.is_exact_at.result ≡ true = c.is_exact_at.ensures.1 exact in
          cc;
    }

pub loop-before-preserved : goal.loop-before-preserved
loop-before-preserved c =
    numbers_more (λ i. IsExactAt c.args.road.now (to_z w128 (of_z w128 c.args.den)) c.args.point.now i) c.loop-before.before
    c.loop-before.invariant (c.is_exact_at.ensures.0 c.if-not-is_exact_at.false)

pub returns : goal.returns
returns c = record {
  each = λ i n.
      let m : IsNumber i c.loop-before.before = record { from_one = n.from_one; at_most = omega (arith, n.at_most, c.loop-before-test.false, c.len-before-end.ensures) } in
      subst (λ (d : ℤ). IsExactAt c.args.road.now d c.args.point.now i) (to_z-of_z w128 c.args.den c.ranges.den) (c.loop-before.invariant i m);
}
