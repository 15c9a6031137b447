use Rattle.std.proofs.Common.{◌+◌, ap, drop, arith}
use Rattle.std.specs.Prelude.{ℤ, pos}
use Rattle.std.proofs.lemmas.Int.{ints, to_z-of_z}
use Rattle.road_types.specs.declared.road.Slab.{Slab}
use Rattle.road_types.specs.Volumes.{volume_to}
use Rattle.road_types.proofs.ListRests.{solid_at, volume_more, volume_none}
use Rattle.wide_products.specs.Naturals.{whole_of}
use Rattle.wide_volumes.proofs.volumes.table_volume.Goals as goal

other : Slab
other = record { thick = pos 0; area = pos 0 }

pub slab_volume-requires-clause-solid : goal.slab_volume-requires-clause-solid
unfolding other
slab_volume-requires-clause-solid c = solid_at c.args.slabs.now c.requires.slabs c.loop-slab.slab-index other (omega arith)

pub left_below-left-requires-clause-solid : goal.left_below-left-requires-clause-solid
unfolding other
left_below-left-requires-clause-solid c = solid_at c.args.slabs.now c.requires.slabs c.loop-slab.slab-index other (omega arith)

pub loop-slab-preserved : goal.loop-slab-preserved
unfolding other
loop-slab-preserved c =
    let slabs = c.args.slabs.now in
    let den = c.ranges.den in
    let more = volume_more slabs c.loop-slab.slab-index other (whole_of c.loop-slab.left) c.args.den (omega arith) in
    let here = simp to_z-of_z at c.slab_volume.ensures.value in
    let below = ap (λ (x : ℤ). volume_to (drop (c.loop-slab.slab-index + 1) slabs) x c.args.den) (simp to_z-of_z at c.left_below-left.ensures.value) in
    let so_far = simp to_z-of_z at c.loop-slab.invariant.volume_is in
    let added = c.plus-volume.ensures in
    record {
      volume_is = simp to_z-of_z (omega (arith, ints, more, here, below, so_far, added));
      left_from = c.left_below-left.ensures.from;
      volume_from = omega (arith, ints, added, c.loop-slab.invariant.volume_from, c.slab_volume.ensures.from);
      volume_to = omega (arith, ints, added, c.loop-slab.invariant.volume_to, c.slab_volume.ensures.to);
    }

pub returns-clause-value : goal.returns-clause-value
returns-clause-value c =
    let den = c.ranges.den in
    let so_far = simp to_z-of_z at c.loop-slab.invariant.volume_is in
    omega (arith, ints, so_far, volume_none c.args.slabs.now c.loop-slab.slab-index (whole_of c.loop-slab.left) c.args.den (omega arith))
