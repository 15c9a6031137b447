use Rattle.std.proofs.Common.{◌≡◌, map, drop}
use Rattle.std.specs.Prelude.{pos, ◌≤ℤ◌, fold}
use Rattle.std.specs.Int.{int_max}
use Rattle.road_types.specs.declared.road.Slab.{Slab}
use Rattle.road_types.proofs.lines.greatest_area.Given as goal

abbrev pub invariant-loop-slab : goal.invariant-loop-slab
invariant-loop-slab l = record {
  value : fold int_max l.greatest (map (λ (slab : Slab). slab.area) (drop l.slab-index l.slabs)) ≡ fold int_max l.first (map (λ (slab : Slab). slab.area) l.slabs);
  from : pos 0 ≤ℤ l.greatest;
  to : l.greatest ≤ℤ pos 10000000;
}
