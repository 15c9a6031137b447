use Rattle.std.proofs.Common.{◌≡◌, ◌*◌, ◌^◌, drop}
use Rattle.std.specs.Prelude.{pos, ◌+ℤ◌, ◌≤ℤ◌}
use Rattle.road_types.specs.Volumes.{volume_to}
use Rattle.wide_products.specs.Naturals.{whole_of}
use Rattle.wide_volumes.proofs.volumes.table_volume.Given as goal

abbrev pub invariant-loop-slab : goal.invariant-loop-slab
invariant-loop-slab l = record {
  volume_is : whole_of l.volume +ℤ volume_to (drop l.slab-index l.slabs) (whole_of l.left) l.den ≡ volume_to l.slabs (whole_of l.fn.depth) l.den;
  left_from : pos 0 ≤ℤ whole_of l.left;
  volume_from : pos 0 ≤ℤ whole_of l.volume;
  volume_to : whole_of l.volume ≤ℤ pos (l.slab-index * 2 ^ 176);
}
