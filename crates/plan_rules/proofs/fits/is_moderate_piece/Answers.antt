use Rattle.std.proofs.Common.{rules, FitsSigned}
use Rattle.std.specs.Int.{w128}
use Rattle.std.proofs.lemmas.Int.{to_z-of_z}
use Rattle.plan_rules.proofs.LogicLemmas.{both_tells}
use Rattle.plan_rules.proofs.fits.is_moderate_piece.Goals as goal

pub returns : goal.returns
returns c =
    let piece = c.args.piece.now in
    let a : FitsSigned w128 piece.a = search rules in
    let b : FitsSigned w128 piece.b = search rules in
    let d : FitsSigned w128 piece.c = search rules in
    let height = simp to_z-of_z at c.is_moderate.ensures in
    let grade = simp to_z-of_z at c.is_moderate-2.ensures in
    let curve = simp to_z-of_z at c.is_moderate-3.ensures in
    let two = both_tells _ _ _ c.both.ensures height grade (λ h. h) (λ h. h) in
    both_tells _ _ _ c.both-2.ensures two curve
    (λ h. record { a = h.0.0; b = h.0.1; c = h.1 })
    (λ r. ((r.a, r.b), r.c))
