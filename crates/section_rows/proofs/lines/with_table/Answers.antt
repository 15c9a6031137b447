use Rattle.std.proofs.Common.{◌≡◌, ◌+◌, List, get_or, drop, arith, ap, sym, ◌∙◌, FitsSigned, rules}
use Rattle.std.specs.Prelude.{ℤ, pos, ◌+ℤ◌, fold}
use Rattle.std.specs.Int.{int_min, int_max, w64}
use Rattle.std.proofs.lemmas.Int.{ints, to_z-of_z}
use Rattle.road_types.specs.Lines.{areas_between}
use Rattle.road_types.specs.declared.road.Slab.{Slab}
use Rattle.road_types.proofs.ListRests.{solid_at}
use Rattle.section_rows.specs.inside.Scans.{area_within}
use Rattle.section_rows.proofs.ScanLemmas.{scan_more, scan_none}
use Rattle.section_rows.proofs.lines.with_table.Goals as goal

other : Slab
other = record { thick = pos 0; area = pos 0 }

pub loop-slab-init : goal.loop-slab-init
loop-slab-init c =
    let l : FitsSigned w64 c.args.first.least = search rules in
    let g : FitsSigned w64 c.args.first.greatest = search rules in
    record {
      least = simp to_z-of_z;
      greatest = simp to_z-of_z;
      scan = record {
        top = omega (arith, ints);
        least_from = simp to_z-of_z (c.requires.scan.least_from);
        least_to = simp to_z-of_z (c.requires.scan.least_to);
        greatest_from = simp to_z-of_z (c.requires.scan.greatest_from);
        greatest_to = simp to_z-of_z (c.requires.scan.greatest_to);
      };
      top = omega (arith, ints);
    }

pub with_slab-scan-requires-clause-slab : goal.with_slab-scan-requires-clause-slab
unfolding other
with_slab-scan-requires-clause-slab c = solid_at c.args.slabs.now c.requires.slabs c.loop-slab.slab-index other (omega arith)

pub with_slab-scan-requires-clause-top : goal.with_slab-scan-requires-clause-top
with_slab-scan-requires-clause-top c = omega (arith, ints, c.loop-slab.invariant.top, c.requires.slabs.few)

pub loop-slab-preserved : goal.loop-slab-preserved
unfolding other
loop-slab-preserved c =
    let low = c.ranges.low in
    let high = c.ranges.high in
    let slabs = c.args.slabs.now in
    let at = c.loop-slab.slab-index in
    let scan = c.loop-slab.scan in
    let next = c.with_slab-scan.result in
    let slab = get_or slabs at other in
    let solid = solid_at slabs c.requires.slabs at other (omega arith) in
    let top : next.top ≡ scan.top +ℤ slab.thick = c.with_slab-scan.ensures.top in
    let least : next.least ≡ fold int_min scan.least (area_within slab scan.top c.args.low c.args.high) = simp to_z-of_z at c.with_slab-scan.ensures.least in
    let greatest : next.greatest ≡ fold int_max scan.greatest (area_within slab scan.top c.args.low c.args.high) = simp to_z-of_z at c.with_slab-scan.ensures.greatest in
    let rest : ℤ → List ℤ = λ from. areas_between (drop (at + 1) slabs) from c.args.low c.args.high in
    record {
      least = simp to_z-of_z
          (ap (λ (x : ℤ). fold int_min x (rest next.top)) least
          ∙ ap (λ (x : ℤ). fold int_min (fold int_min scan.least (area_within slab scan.top c.args.low c.args.high)) (rest x)) top
          ∙ sym (scan_more int_min scan.least scan.top c.args.low c.args.high slabs at other (omega arith))
          ∙ (simp to_z-of_z at c.loop-slab.invariant.least));
      greatest = simp to_z-of_z
          (ap (λ (x : ℤ). fold int_max x (rest next.top)) greatest
          ∙ ap (λ (x : ℤ). fold int_max (fold int_max scan.greatest (area_within slab scan.top c.args.low c.args.high)) (rest x)) top
          ∙ sym (scan_more int_max scan.greatest scan.top c.args.low c.args.high slabs at other (omega arith))
          ∙ (simp to_z-of_z at c.loop-slab.invariant.greatest));
      scan = c.with_slab-scan.ensures.scan;
      top = omega (arith, ints, top, solid.thick.at_most, c.loop-slab.invariant.top);
    }

pub returns-clause-least : goal.returns-clause-least
returns-clause-least c =
    let low = c.ranges.low in
    let high = c.ranges.high in
    sym (scan_none int_min c.loop-slab.scan.least c.loop-slab.scan.top c.args.low c.args.high c.args.slabs.now c.loop-slab.slab-index (omega arith))
    ∙ (simp to_z-of_z at c.loop-slab.invariant.least)

pub returns-clause-greatest : goal.returns-clause-greatest
returns-clause-greatest c =
    let low = c.ranges.low in
    let high = c.ranges.high in
    sym (scan_none int_max c.loop-slab.scan.greatest c.loop-slab.scan.top c.args.low c.args.high c.args.slabs.now c.loop-slab.slab-index (omega arith))
    ∙ (simp to_z-of_z at c.loop-slab.invariant.greatest)
