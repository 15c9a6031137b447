use Rattle.std.proofs.Common.{◌≡◌, ◌*◌, ◌^◌, drop}
use Rattle.std.specs.Prelude.{pos, ◌+ℤ◌, ◌≤ℤ◌}
use Rattle.road_types.specs.Volumes.{volume_to}
use Rattle.milp_builder.proofs.volumes.table_volume.Given as goal

abbrev pub invariant-loop-slab : goal.invariant-loop-slab
invariant-loop-slab l = record {
  volume_is : l.volume +ℤ volume_to (drop l.slab-index l.slabs) l.left l.den ≡ volume_to l.slabs l.depth l.den;
  left_from : pos 0 ≤ℤ l.left;
  volume_from : pos 0 ≤ℤ l.volume;
  volume_to : l.volume ≤ℤ pos (l.slab-index * 2 ^ 120);
}
