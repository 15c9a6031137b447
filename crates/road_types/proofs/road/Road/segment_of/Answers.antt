use Rattle.std.proofs.Common.{◌≡◌, ℕ, ◌+◌, subst, arith}
use Rattle.road_types.specs.Heights.{segment_at, IsInSegment}
use Rattle.std.proofs.lemmas.Int.{to_z-of_z}
use Rattle.road_types.proofs.SegmentLemmas.{in_segment, segment_number, all_but_first}
use Rattle.road_types.proofs.road.Road.segment_of.Goals as goal

pub overflow_add-result : goal.overflow_add-result
overflow_add-result c =
    let station = c.ranges.station in
    let knots = c.args.self.now.knots in
    let counted = c.requires.well_formed.counted in
    let inside = in_segment knots c.args.station counted.knots_from c.requires.station.after_first c.requires.station.before_last in
    let before = rw (c.as_slice.ensures, all_but_first knots) at (simp to_z-of_z at c.knots_before.ensures) in
    omega (arith, inside.number.at_most, before, counted.knots_to, segment_number knots c.args.station counted.knots_from)

pub returns-clause-value : goal.returns-clause-value
returns-clause-value c =
    let station = c.ranges.station in
    let knots = c.args.self.now.knots in
    let before = rw (c.as_slice.ensures, all_but_first knots) at (simp to_z-of_z at c.knots_before.ensures) in
    omega (arith, before, segment_number knots c.args.station c.requires.well_formed.counted.knots_from)

pub returns-clause-inside : goal.returns-clause-inside
returns-clause-inside c =
    let station = c.ranges.station in
    let knots = c.args.self.now.knots in
    let counted = c.requires.well_formed.counted in
    let inside = in_segment knots c.args.station counted.knots_from c.requires.station.after_first c.requires.station.before_last in
    let before = rw (c.as_slice.ensures, all_but_first knots) at (simp to_z-of_z at c.knots_before.ensures) in
    let same = segment_number knots c.args.station counted.knots_from in
    let e : segment_at knots c.args.station ≡ 1 + c.knots_before.result = omega (arith, before, same) in
    subst (λ (g : ℕ). IsInSegment knots g c.args.station) e inside
