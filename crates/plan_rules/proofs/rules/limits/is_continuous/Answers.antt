use Rattle.std.proofs.Common.{rules, FitsSigned, arith}
use Rattle.std.specs.Int.{w128}
use Rattle.std.proofs.lemmas.Int.{to_z-of_z}
use Rattle.plan_rules.proofs.LogicLemmas.{both_tells}
use Rattle.plan_rules.proofs.rules.limits.is_continuous.Goals as goal

pub returns : goal.returns
returns c =
    let a : FitsSigned w128 c.piece_at-next.result.a = search rules in
    let b : FitsSigned w128 c.piece_at-next.result.b = search rules in
    let height : FitsSigned w128 c.end_height.result = search rules in
    let grade : FitsSigned w128 c.end_grade.result = search rules in
    let same_height = rw (c.end_height.ensures, c.piece_at-next.ensures) at (simp to_z-of_z at c.same-height.ensures) in
    let same_grade = rw (c.end_grade.ensures, c.piece_at-next.ensures) at (simp to_z-of_z at c.same-grade.ensures) in
    both_tells _ _ _ c.both.ensures same_height same_grade
    (λ h. record { height = h.0; grade = h.1 })
    (λ r. (r.height, r.grade))

pub end_height-requires-clause-segment : goal.end_height-requires-clause-segment
end_height-requires-clause-segment c =
    record { from_one = c.requires.segment.from_one; at_most = omega (arith, c.requires.segment.at_most) }

pub end_grade-requires-clause-segment : goal.end_grade-requires-clause-segment
end_grade-requires-clause-segment c =
    record { from_one = c.requires.segment.from_one; at_most = omega (arith, c.requires.segment.at_most) }
