use Rattle.std.proofs.Common.{◌≡◌, ◌*◌, drop}
use Rattle.std.specs.Prelude.{pos, ◌+ℤ◌, ◌≤ℤ◌}
use Rattle.road_types.specs.Volumes.{thickness_of}
use Rattle.road_types.proofs.volumes.thickness_of.Given as goal

abbrev pub invariant-loop-slab : goal.invariant-loop-slab
invariant-loop-slab l = record {
  thickness_is : l.thickness +ℤ thickness_of (drop l.slab-index l.slabs) ≡ thickness_of l.slabs;
  from : pos 0 ≤ℤ l.thickness;
  to : l.thickness ≤ℤ pos (l.slab-index * 10000000);
}
