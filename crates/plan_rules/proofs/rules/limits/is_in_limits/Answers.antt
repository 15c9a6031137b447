use Rattle.std.proofs.Common.{rules, FitsSigned}
use Rattle.std.specs.Int.{w64, w128}
use Rattle.std.proofs.lemmas.Int.{to_z-of_z}
use Rattle.plan_rules.proofs.LogicLemmas.{both_tells}
use Rattle.plan_rules.proofs.rules.limits.is_in_limits.Goals as goal

pub returns : goal.returns
returns c =
    let road = c.args.road.now in
    let den : FitsSigned w128 c.args.plan.now.den = search rules in
    let low : FitsSigned w64 road.low = search rules in
    let high : FitsSigned w64 road.high = search rules in
    let grade_low : FitsSigned w64 road.grade.0 = search rules in
    let grade_high : FitsSigned w64 road.grade.1 = search rules in
    let curve : FitsSigned w64 road.curve = search rules in
    let a : FitsSigned w128 c.piece_at-piece.result.a = search rules in
    let b : FitsSigned w128 c.piece_at-piece.result.b = search rules in
    let d : FitsSigned w128 c.piece_at-piece.result.c = search rules in
    let height = rw c.piece_at-piece.ensures at (simp to_z-of_z at c.is_within-height.ensures) in
    let grade = rw c.piece_at-piece.ensures at (simp to_z-of_z at c.is_within-grade.ensures) in
    let opposite : FitsSigned w64 c.opposite.result = search rules in
    let least = simp to_z-of_z at c.opposite.ensures in
    let bend = rw (c.piece_at-piece.ensures, least) at (simp to_z-of_z at c.is_within-curve.ensures) in
    let two = both_tells _ _ _ c.both.ensures height grade (λ h. h) (λ h. h) in
    both_tells _ _ _ c.both-2.ensures two bend
    (λ h. record { height = h.0.0; grade = h.0.1; curve = h.1 })
    (λ r. ((r.height, r.grade), r.curve))

pub is_within-height-requires : goal.is_within-height-requires
is_within-height-requires c =
    let den : FitsSigned w128 c.args.plan.now.den = search rules in
    record { den = simp to_z-of_z c.requires.fits.den }

pub is_within-grade-requires : goal.is_within-grade-requires
is_within-grade-requires c =
    let den : FitsSigned w128 c.args.plan.now.den = search rules in
    record { den = simp to_z-of_z c.requires.fits.den }

pub is_within-curve-requires : goal.is_within-curve-requires
is_within-curve-requires c =
    let den : FitsSigned w128 c.args.plan.now.den = search rules in
    record { den = simp to_z-of_z c.requires.fits.den }
