use Rattle.std.proofs.Common.{rules, FitsSigned}
use Rattle.std.specs.Int.{w64, w128}
use Rattle.std.proofs.lemmas.Int.{to_z-of_z}
use Rattle.plan_rules.proofs.rules.limits.ends_in_grade.Goals as goal

pub returns : goal.returns
returns c =
    let den : FitsSigned w128 c.args.plan.now.den = search rules in
    let low : FitsSigned w64 c.args.road.now.grade.0 = search rules in
    let high : FitsSigned w64 c.args.road.now.grade.1 = search rules in
    let grade : FitsSigned w128 c.end_grade.result = search rules in
    rw c.end_grade.ensures at (simp to_z-of_z at c.is_within.ensures)

pub is_within-requires : goal.is_within-requires
is_within-requires c =
    let den : FitsSigned w128 c.args.plan.now.den = search rules in
    record { den = simp to_z-of_z c.requires.fits.den }
