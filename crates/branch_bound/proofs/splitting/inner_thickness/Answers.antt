use Rattle.std.proofs.Common.{arith, below_more}
use Rattle.std.specs.Prelude.{pos}
use Rattle.std.proofs.lemmas.Int.{ints}
use Rattle.road_types.specs.declared.road.Slab.{Slab}
use Rattle.milp_builder.proofs.LeadingSlabs.{solid_at, leading_none, leading_more}
use Rattle.branch_bound.proofs.splitting.inner_thickness.Goals as goal

other : Slab
other = record { thick = pos 0; area = pos 0 }

pub loop-slab-init : goal.loop-slab-init
loop-slab-init c = record {
  depth_is = omega (arith, ints, leading_none c.args.slabs.now);
  from = omega (arith, ints);
  to = omega (arith, ints);
  not_before = λ k below above under. omega arith;
}

pub loop-slab-preserved : goal.loop-slab-preserved
unfolding other
loop-slab-preserved c =
    let solid = solid_at c.args.slabs.now c.requires.solid c.loop-slab.slab-index other (omega arith) in
    let more = leading_more c.args.slabs.now c.loop-slab.slab-index other (omega arith) in
    let thick = solid.thick in
    let few = c.requires.few in
    record {
      depth_is = omega (arith, ints, more, c.from-depth.ensures);
      from = omega (arith, ints, c.from-depth.ensures);
      to = omega (arith, ints, c.from-depth.ensures);
      not_before = below_more _ _ c.loop-slab.invariant.not_before (λ above below.
          let apart = c.is_between.ensures.1 (omega (arith, ints, above, c.loop-slab.depth-is, c.loop-slab.invariant.depth_is), omega (arith, ints, below, c.loop-slab.depth-is, c.loop-slab.invariant.depth_is)) in
          cc);
    }
