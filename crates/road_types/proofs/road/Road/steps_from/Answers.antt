use Rattle.std.proofs.Common.{FitsSigned, rules, arith}
use Rattle.std.specs.Int.{w64}
use Rattle.std.proofs.lemmas.Int.{ints}
use Rattle.road_types.proofs.SegmentLemmas.{station_span}
use Rattle.road_types.proofs.road.Road.steps_from.Goals as goal

pub overflow_sub-result : goal.overflow_sub-result
overflow_sub-result c =
    let station = c.ranges.station in
    let knot : FitsSigned w64 c.knot.result = search rules in
    let span = station_span c.args.self.now c.args.station c.args.segment c.requires.well_formed c.requires.station c.requires.segment in
    omega (arith, ints, span, c.knot.ensures)

pub returns-clause-value : goal.returns-clause-value
returns-clause-value c =
    let station = c.ranges.station in
    let knot : FitsSigned w64 c.knot.result = search rules in
    let span = station_span c.args.self.now c.args.station c.args.segment c.requires.well_formed c.requires.station c.requires.segment in
    omega (arith, ints, span, c.knot.ensures)

pub returns-clause-width : goal.returns-clause-width
returns-clause-width c =
    let station = c.ranges.station in
    let knot : FitsSigned w64 c.knot.result = search rules in
    let span = station_span c.args.self.now c.args.station c.args.segment c.requires.well_formed c.requires.station c.requires.segment in
    omega (arith, ints, span, c.knot.ensures)
