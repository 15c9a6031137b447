use Rattle.std.proofs.Common.{◌≡◌, suc, ◌+◌, ap, ◌∙◌, FitsSigned, rules, arith}
use Rattle.std.specs.Prelude.{pos}
use Rattle.std.specs.Int.{w64}
use Rattle.std.proofs.lemmas.Int.{ints}
use Rattle.road_types.specs.Numbered.{numbered}
use Rattle.road_types.proofs.SegmentLemmas.{segment_span}
use Rattle.road_types.proofs.road.Road.segment_length.Goals as goal

pub overflow_sub-result : goal.overflow_sub-result
overflow_sub-result c =
    let end : FitsSigned w64 c.knot.result = search rules in
    let start : FitsSigned w64 c.knot-2.result = search rules in
    let next : c.args.segment + 1 ≡ suc c.args.segment = omega arith in
    let end_is = c.knot.ensures ∙ ap (numbered (pos 0) c.args.self.now.knots) next in
    omega (arith, ints, segment_span c.args.self.now c.args.segment c.requires.well_formed c.requires.segment, end_is, c.knot-2.ensures)

pub returns-clause-value : goal.returns-clause-value
returns-clause-value c =
    let end : FitsSigned w64 c.knot.result = search rules in
    let start : FitsSigned w64 c.knot-2.result = search rules in
    let next : c.args.segment + 1 ≡ suc c.args.segment = omega arith in
    let end_is = c.knot.ensures ∙ ap (numbered (pos 0) c.args.self.now.knots) next in
    omega (arith, ints, segment_span c.args.self.now c.args.segment c.requires.well_formed c.requires.segment, end_is, c.knot-2.ensures)

pub returns-clause-width : goal.returns-clause-width
returns-clause-width c =
    let end : FitsSigned w64 c.knot.result = search rules in
    let start : FitsSigned w64 c.knot-2.result = search rules in
    let next : c.args.segment + 1 ≡ suc c.args.segment = omega arith in
    let end_is = c.knot.ensures ∙ ap (numbered (pos 0) c.args.self.now.knots) next in
    omega (arith, ints, segment_span c.args.self.now c.args.segment c.requires.well_formed c.requires.segment, end_is, c.knot-2.ensures)
