use Rattle.std.proofs.Common.{◌≡◌, ◌*◌, drop}
use Rattle.std.specs.Prelude.{pos, ◌≤ℤ◌, fold}
use Rattle.std.specs.Int.{int_min, int_max}
use Rattle.road_types.specs.Lines.{areas_between}
use Rattle.section_rows.specs.inside.Scans.{IsScan}
use Rattle.section_rows.proofs.lines.with_table.Given as goal

abbrev pub invariant-loop-slab : goal.invariant-loop-slab
invariant-loop-slab l = record {
  least : fold int_min l.scan.least (areas_between (drop l.slab-index l.slabs) l.scan.top l.low l.high) ≡ fold int_min l.fn.first.least (areas_between l.slabs (pos 0) l.low l.high);
  greatest : fold int_max l.scan.greatest (areas_between (drop l.slab-index l.slabs) l.scan.top l.low l.high) ≡ fold int_max l.fn.first.greatest (areas_between l.slabs (pos 0) l.low l.high);
  scan : IsScan l.scan;
  top : l.scan.top ≤ℤ pos (l.slab-index * 10000000);
}
